-- A file that was read has as many bytes as its inode says.
use Rattle.std.proofs.Common.{◌≡◌, ℕ, ◌*◌, ◌/◌, ◌%◌, ◌≤◌, refl, Bool, true, false, cond}
use Rattle.std.proofs.Common.{length-append, length-take-le, arith}
use Rattle.std.proofs.Common.{List, [], ◌∷◌, length, take, replicate, nat_eq}
use Rattle.std.specs.List.{flat_map}
use Rattle.base.specs.declared.TheConstants.{BLOCK_BYTES, DIRECT_INDEXES, LARGEST_FILE}
use Rattle.base.specs.declared.TheConstants.{TARGET_BYTES}
use Rattle.disk.specs.Crash.{Image}
use Rattle.layout.specs.declared.inode.Inode.{Inode}
use Rattle.layout.specs.Decode.{numbers_of, bytes_of, content_of}
use Rattle.layout.proofs.AllNumbers.{all-length}

one_long : (content : Image) → ((number : ℕ) → length (content number) ≡ BLOCK_BYTES) → (number : ℕ)
    → length (content_of content number) ≡ BLOCK_BYTES
one_long content long number = chosen (nat_eq number 0)
  where
    chosen : (none : Bool) → length (cond none (replicate BLOCK_BYTES 0) (content number)) ≡ BLOCK_BYTES
    chosen true = refl
    chosen false = long number

pub bytes-length : (content : Image) → ((number : ℕ) → length (content number) ≡ BLOCK_BYTES)
    → (numbers : List ℕ) → length (bytes_of content numbers) ≡ BLOCK_BYTES * length numbers
unfolding bytes_of
bytes-length content long [] = refl
bytes-length content long (n ∷ numbers) =
    let rest = bytes-length content long numbers in
    let here = one_long content long n in
    let both = length-append (content_of content n) (flat_map (content_of content) numbers) in
    omega (arith, both, here, rest)

module _ (content : Image) (inode : Inode) (direct : length inode.direct ≡ DIRECT_INDEXES) where
  pub regular_size : ((number : ℕ) → length (content number) ≡ BLOCK_BYTES) → inode.size ≤ LARGEST_FILE
      → length (take inode.size (bytes_of content (numbers_of content inode))) ≡ inode.size
  regular_size long small =
      let all = all-length content inode direct in
      let bytes = bytes-length content long (numbers_of content inode) in
      length-take-le inode.size (bytes_of content (numbers_of content inode))
      (omega (arith, all, bytes, small))

  pub link_size : ((number : ℕ) → length (content number) ≡ BLOCK_BYTES) → inode.size ≤ TARGET_BYTES
      → length (take inode.size (bytes_of content (take 1 inode.direct))) ≡ inode.size
  link_size long small =
      let first = length-take-le 1 inode.direct (omega (arith, direct)) in
      let bytes = bytes-length content long (take 1 inode.direct) in
      length-take-le inode.size (bytes_of content (take 1 inode.direct)) (omega (arith, first, bytes, small))

pub directory_size : (size : ℕ) → size % BLOCK_BYTES ≡ 0 → BLOCK_BYTES * (size / BLOCK_BYTES) ≡ size
directory_size size whole = omega (arith, whole)
