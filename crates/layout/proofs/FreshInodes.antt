-- What the inodes of a fresh table are read as.
use Rattle.std.proofs.Common.{◌≡◌, ℕ, ◌+◌, ◌-◌, ◌*◌, ◌/◌, ◌%◌, ◌<◌, ◌≤◌, inl, inr, ◌++◌, true, List, length}
use Rattle.std.proofs.Common.{take, drop, replicate, Some, None, false, Ok, refl, sym, ap, ◌∙◌, arith}
use Rattle.std.specs.Int.{w32, from_le_bytes, to_le_bytes}
use Rattle.std.proofs.Math.Seq.{drop-append-add}
use Rattle.std.proofs.lemmas.Bool.{lt-ltb, cases_eq, cases_lt}
use Rattle.std.proofs.lemmas.List.{take-replicate, drop-replicate, take-append-le, take_all, length-replicate}
use Rattle.std.proofs.lemmas.Nat.{from_le_bytes-to_le_bytes_4}
use Rattle.base.specs.declared.TheConstants.{BLOCK_BYTES, INODE_BYTES, INODES_PER_BLOCK, NANOSECONDS}
use Rattle.disk.specs.Crash.{Image}
use Rattle.nfs_types.specs.declared.ctx.Moment.{Moment}
use Rattle.nfs_spec.specs.Model.Sound.{SoundTime}
use Rattle.layout.specs.declared.geometry.Geometry.{Geometry}
use Rattle.layout.specs.declared.inode.InodeKind.TheVariants.{Directory}
use Rattle.layout.specs.Decode.{inode_at}
use Rattle.layout.specs.Fields.{four_at, eight_at, numbers_at, four_bytes, eight_bytes, is_zeros}
use Rattle.layout.specs.Fresh.{HasFreshHomes, root_inode, root_block}
use Rattle.layout.specs.InodeForm.{read_inode, fields_of, is_sound_inode, inode_bytes, header_bytes}
use Rattle.layout.specs.InodeForm.{middle_bytes, tail_bytes, rest_is_zero, kind_of_number}
use Rattle.layout.specs.Geometry.{IsLawful, table_at}
use Rattle.layout.specs.Places.{inode_block, inode_offset}
use Rattle.layout.proofs.ReadInode.{sound}

-- zeros are a free inode
pub free : (g : Geometry) → read_inode g (replicate INODE_BYTES 0) ≡ Ok None
unfolding read_inode
free g = refl

module _ (moment : Moment) (now : SoundTime moment) where
  abbrev bytes : List ℕ
  bytes = inode_bytes (root_inode moment)

  bytes-length : length bytes ≡ INODE_BYTES
  unfolding header_bytes middle_bytes tail_bytes four_bytes eight_bytes
  bytes-length = refl

  time : record {
    seconds = from_le_bytes w32 (to_le_bytes w32 moment.seconds);
    nanoseconds = from_le_bytes w32 (to_le_bytes w32 moment.nanoseconds);
  } ≡ moment
  time = λ i. record {
    seconds = from_le_bytes-to_le_bytes_4 moment.seconds now.seconds i;
    nanoseconds = from_le_bytes-to_le_bytes_4 moment.nanoseconds (omega (arith, now.nanoseconds)) i;
  }

  pub fields : fields_of Directory bytes ≡ root_inode moment
  unfolding fields_of four_at eight_at numbers_at header_bytes middle_bytes tail_bytes four_bytes eight_bytes
  fields = λ i. record (root_inode moment) { atime = time i; mtime = time i; ctime = time i }

  kind : kind_of_number (four_at 0 bytes) ≡ Some Directory
  unfolding four_at eight_at header_bytes middle_bytes tail_bytes four_bytes eight_bytes
  kind = refl

  some_bytes : is_zeros bytes ≡ false
  unfolding header_bytes four_bytes
  some_bytes = refl

  rest : rest_is_zero bytes ≡ true
  unfolding four_at eight_at header_bytes middle_bytes tail_bytes four_bytes eight_bytes
  rest = refl

  is_sound : (g : Geometry) → 1 < g.inodes → is_sound_inode g (root_inode moment) ≡ true
  unfolding is_sound_inode
  is_sound g more =
      rw (lt-ltb 1 g.inodes more, lt-ltb moment.nanoseconds NANOSECONDS now.nanoseconds) refl

  -- the root's bytes are the root
  pub root : (g : Geometry) → 1 < g.inodes → read_inode g bytes ≡ Ok (Some (root_inode moment))
  root g more =
      sym (sound g bytes Directory (root_inode moment) some_bytes kind (sym fields) rest
      (is_sound g more))

  -- ---- the parts of the table

  -- a part of zeros
  part : (from count : ℕ) → from + INODE_BYTES ≤ count
      → take {A = ℕ} INODE_BYTES (drop from (replicate count 0)) ≡ replicate INODE_BYTES 0
  part from count few =
      ap (take {A = ℕ} INODE_BYTES) (drop-replicate from count 0)
      ∙ take-replicate INODE_BYTES (count - from) 0 (omega (arith, few))

  first : take INODE_BYTES (drop 0 (root_block moment)) ≡ replicate INODE_BYTES 0
  first = take-append-le INODE_BYTES (replicate INODE_BYTES 0) (bytes
      ++ replicate (BLOCK_BYTES - INODE_BYTES - INODE_BYTES) 0)
      (omega (arith, length-replicate {A = ℕ} INODE_BYTES 0))
      ∙ take-replicate INODE_BYTES INODE_BYTES 0 (omega arith)

  past : (from : ℕ)
      → drop (INODE_BYTES + from) (root_block moment)
      ≡ drop from (bytes ++ replicate (BLOCK_BYTES - INODE_BYTES - INODE_BYTES) 0)
  past from = ap (λ n. drop (n + from) (root_block moment)) (sym (length-replicate {A = ℕ} INODE_BYTES 0))
      ∙ drop-append-add (replicate INODE_BYTES 0) _ from

  second : take INODE_BYTES (drop (INODE_BYTES + 0) (root_block moment)) ≡ bytes
  second =
      ap (take INODE_BYTES) (past 0)
      ∙ take-append-le INODE_BYTES bytes _ (omega (arith, bytes-length))
      ∙ take_all INODE_BYTES bytes (omega (arith, bytes-length))

  behind : (from : ℕ)
      → drop (INODE_BYTES + (INODE_BYTES + from)) (root_block moment)
      ≡ drop from (replicate (BLOCK_BYTES - INODE_BYTES - INODE_BYTES) 0)
  behind from =
      past (INODE_BYTES + from)
      ∙ ap (λ n. drop (n + from) (bytes ++ replicate (BLOCK_BYTES - INODE_BYTES - INODE_BYTES) 0))
      (sym bytes-length) ∙ drop-append-add bytes _ from

  others : (index : ℕ) → 1 < index → index < INODES_PER_BLOCK
      → take INODE_BYTES (drop (INODE_BYTES * index) (root_block moment)) ≡ replicate INODE_BYTES 0
  others index more less =
      let there : INODE_BYTES * index ≡ INODE_BYTES + (INODE_BYTES + (INODE_BYTES * index - 256)) =
      omega (arith, more) in
      ap (λ n. take INODE_BYTES (drop n (root_block moment))) there
      ∙ ap (take INODE_BYTES) (behind (INODE_BYTES * index - 256))
      ∙ part (INODE_BYTES * index - 256) (BLOCK_BYTES - INODE_BYTES - INODE_BYTES) (omega (arith, less))

nonzero : (n : ℕ) → (n ≡ 0 → ⊥) → 0 < n
nonzero n some = elim (cases_lt 0 n) [ inl is ↦ is | inr least ↦ absurd (some (omega (arith, least))) ]

above : (n : ℕ) → (n ≡ 0 → ⊥) → (n ≡ 1 → ⊥) → 1 < n
above n some not = elim (cases_lt 1 n) [
  | inl is ↦ is
  | inr least ↦ let k = nonzero n some in
      absurd (not (omega (arith, least, k)))
]

module _ (g : Geometry) (moment : Moment) (image : Image) (lawful : IsLawful g.blocks g.inodes)
    (now : SoundTime moment) (fresh : HasFreshHomes g moment image) where
  abbrev at : ℕ → List ℕ
  at number = take INODE_BYTES (drop (inode_offset number) (image (inode_block g number)))

  at_is : (number : ℕ) (content : List ℕ) (index : ℕ) → image (inode_block g number) ≡ content
      → inode_offset number ≡ index
      → at number ≡ take INODE_BYTES (drop index content)
  at_is number content index there here = λ i. take INODE_BYTES (drop (here i) (there i))

  in_first : (number : ℕ) → number < INODES_PER_BLOCK
      → image (inode_block g number) ≡ root_block moment
  in_first number less =
      let here : inode_block g number ≡ table_at g.blocks g.inodes = omega (arith, less) in
      ap image here ∙ fresh.root

  in_later : (number : ℕ) → INODES_PER_BLOCK ≤ number → number < g.inodes
      → image (inode_block g number) ≡ replicate BLOCK_BYTES 0
  in_later number more less =
      let whole = lawful.1.2 in
      fresh.free (number / INODES_PER_BLOCK) (omega (arith, more)) (omega (arith, less, whole))

  pub root_at : inode_at g image 1 ≡ Ok (Some (root_inode moment))
  unfolding inode_at
  root_at =
      let few = lawful.1.0 in
      ap (read_inode g)
      (at_is 1 (root_block moment) (INODE_BYTES + 0) (in_first 1 (omega arith)) (omega arith)
      ∙ second moment now)
      ∙ root moment now g (omega (arith, few))

  zero_part : (number : ℕ) → number < g.inodes → (number ≡ 1 → ⊥) → at number ≡ replicate INODE_BYTES 0
  zero_part number less not = elim (cases_lt number INODES_PER_BLOCK) [
    | inl low ↦ (elim (cases_eq number 0) [
      | inl none ↦ at_is number (root_block moment) 0 (in_first number low) (omega (arith, none))
          ∙ first moment now
      | inr some ↦
          let big : 1 < number = above number some not in
          at_is number (root_block moment) (INODE_BYTES * number) (in_first number low) (omega (arith, low))
          ∙ others moment now number big low
    ])
    | inr high ↦
        at_is number (replicate BLOCK_BYTES 0) (INODE_BYTES * (number % INODES_PER_BLOCK))
        (in_later number high less) refl
        ∙ part moment now (INODE_BYTES * (number % INODES_PER_BLOCK)) BLOCK_BYTES (omega arith)
  ]

  pub free_at : (number : ℕ) → number < g.inodes → (number ≡ 1 → ⊥) → inode_at g image number ≡ Ok None
  unfolding inode_at
  free_at number less not = ap (read_inode g) (zero_part number less not)
      ∙ free g
