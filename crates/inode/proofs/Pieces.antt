-- Pieces of the bytes of a file's blocks.
use Rattle.std.proofs.Common.{◌≡◌, ℕ, zero, suc, ◌+◌, ◌-◌, ◌*◌, ◌/◌, ◌%◌, ◌<◌, ◌≤◌, sym, ap, ◌∙◌, refl, Bool, true}
use Rattle.std.proofs.Common.{false, List, [], ◌∷◌, ◌++◌, length, take, drop, get_or, cond, nat_eq, nat_le}
use Rattle.std.proofs.Common.{is_none, replicate, arith}
use Rattle.std.specs.List.{flat_map}
use Rattle.std.proofs.Math.Seq.{drop-append-add}
use Rattle.std.proofs.lemmas.List.{drop-append-le, drop-drop, drop-take, drop_all, length-drop, take-append-le}
use Rattle.std.proofs.lemmas.List.{get_or-take, length-take, length-take-le, take-append-drop, take-take, take_all}
use Rattle.base.specs.declared.TheConstants.{BLOCK_BYTES, DIRECT_INDEXES, LARGEST_FILE, TARGET_BYTES}
use Rattle.disk.specs.Crash.{Image}
use Rattle.nfs_spec.specs.Model.Tree.{Tree}
use Rattle.layout.specs.declared.geometry.Geometry.{Geometry}
use Rattle.layout.specs.declared.inode.Inode.{Inode}
use Rattle.layout.specs.declared.inode.InodeKind.{InodeKind}
use Rattle.layout.specs.declared.inode.InodeKind.TheVariants as kinds
use Rattle.layout.specs.InodeForm.{is_sound_file, is_sound_kind, is_sound_link, is_sound_map, is_sound_regular}
use Rattle.layout.specs.InodeForm.{names_first}
use Rattle.layout.specs.Decode.{bytes_of, content_of, numbers_of}
use Rattle.layout.specs.Parts.{content_in}
use Rattle.layout.proofs.AllNumbers.{all-length}
use Rattle.inode.specs.declared.snap.Snap.{Snap}
use Rattle.inode.specs.Over.{HasInode, all_bytes, number_at}
use Rattle.inode.proofs.AllTests.{all_five, all_three, all_two, no_more}
use Rattle.inode.proofs.InodeThere.{is_read, is_sound, long}
use Rattle.inode.proofs.Placed.{direct_at}

-- ---- lists

two_parts : (a b : ℕ) (xs : List ℕ) → take a xs ++ take b (drop a xs) ≡ take (a + b) xs
two_parts a b xs =
    (λ i. sym (take-take a (a + b) xs (omega arith)) i ++ sym (drop-take a b xs) i)
    ∙ take-append-drop a (take (a + b) xs)

pub grown : (start at len : ℕ) (all bytes part : List ℕ) → start ≤ at → bytes ≡ take (at - start) (drop start all)
    → part ≡ take len (drop at all) → bytes ++ part ≡ take (at + len - start) (drop start all)
grown start at len all bytes part order is adds =
    let there : start + (at - start) ≡ at = omega (arith, order) in
    let sum : at - start + len ≡ at + len - start = omega (arith, order) in
    let rest : part ≡ take len (drop (at - start) (drop start all)) =
    adds ∙ ap (λ k. take len (drop k all)) (sym there) ∙ ap (take len) (sym (drop-drop (at - start) start all)) in
    (λ i. is i ++ rest i) ∙ two_parts (at - start) len (drop start all) ∙ ap (λ k. take k (drop start all)) sum

no_bytes : (k : ℕ) → ◌≡◌ {A = List ℕ} (take k []) []
no_bytes zero = refl
no_bytes (suc k) = refl

pub nothing_yet : (start : ℕ) (all : List ℕ) → ◌≡◌ {A = List ℕ} [] (take (start - start) (drop start all))
nothing_yet start all = ap (λ k. take k (drop start all)) (none start)
  where
    none : (start : ℕ) → 0 ≡ start - start
    none start = omega arith

short : (k : ℕ) (xs : List ℕ) → length (take k xs) ≤ k
short k xs = let is = length-take k xs in omega (arith, is)

pub past_end : (size offset count : ℕ) (all : List ℕ) → size ≤ offset
    → ◌≡◌ {A = List ℕ} [] (take count (drop offset (take size all)))
past_end size offset count all past =
    let less = short size all in
    sym (ap (take count) (drop_all offset (take size all) (omega (arith, less, past))) ∙ no_bytes count)

cut : (size offset : ℕ) (all : List ℕ) → offset ≤ size
    → drop offset (take size all) ≡ take (size - offset) (drop offset all)
cut size offset all order =
    let sum : size ≡ offset + (size - offset) = omega (arith, order) in
    ap (λ k. drop offset (take k all)) sum ∙ drop-take offset (size - offset) all

pub all_that_is_left : (size offset count : ℕ) (all : List ℕ) → offset ≤ size → size - offset ≤ count
    → take (size - offset) (drop offset all) ≡ take count (drop offset (take size all))
all_that_is_left size offset count all order few =
    let less = short (size - offset) (drop offset all) in
    sym (ap (take count) (cut size offset all order)
    ∙ take_all count (take (size - offset) (drop offset all)) (omega (arith, less, few)))

pub as_many_as_asked : (size offset count : ℕ) (all : List ℕ) → offset ≤ size → count ≤ size - offset
    → take (offset + count - offset) (drop offset all) ≡ take count (drop offset (take size all))
as_many_as_asked size offset count all order few =
    ap (λ k. take k (drop offset all)) (omega arith)
    ∙ sym (ap (take count) (cut size offset all order) ∙ take-take count (size - offset) (drop offset all) few)

-- ---- a piece that lies in one block of several

module _ (content : Image) (all_long : (number : ℕ) → length (content number) ≡ BLOCK_BYTES) where
  by_test : (none : Bool) (number : ℕ) → length (cond none (replicate BLOCK_BYTES 0) (content number)) ≡ BLOCK_BYTES
  by_test true number = refl
  by_test false number = all_long number

  content_long : (number : ℕ) → length (content_of content number) ≡ BLOCK_BYTES
  content_long number = by_test (nat_eq number 0) number

  pub in_block : (numbers : List ℕ) (index from len : ℕ) → index < length numbers → from + len ≤ BLOCK_BYTES
      → take len (drop (BLOCK_BYTES * index + from) (flat_map (content_of content) numbers))
      ≡ take len (drop from (content_of content (get_or numbers index 0)))
  in_block [] index from len less has_space = absurd (omega (arith, less))
  in_block (number ∷ numbers) zero from len less has_space =
      let all = content_long number in
      let rest = length-drop from (content_of content number) in
      let there : BLOCK_BYTES * 0 + from ≡ from = omega arith in
      ap (λ k. take len (drop k (content_of content number ++ flat_map (content_of content) numbers))) there
      ∙ ap (λ l. take len l) (drop-append-le from (content_of content number)
      (flat_map (content_of content) numbers) (omega (arith, all, has_space)))
      ∙ take-append-le len (drop from (content_of content number)) (flat_map (content_of content) numbers)
      (omega (arith, rest, all, has_space))
  in_block (number ∷ numbers) (suc index) from len less has_space =
      let all = content_long number in
      let there : BLOCK_BYTES * suc index + from ≡ length (content_of content number) + (BLOCK_BYTES * index + from) =
      omega (arith, all) in
      ap (λ k. take len (drop k (content_of content number ++ flat_map (content_of content) numbers))) there
      ∙ ap (take len) (drop-append-add (content_of content number) (flat_map (content_of content) numbers)
      (BLOCK_BYTES * index + from))
      ∙ in_block numbers index from len (omega (arith, less)) has_space

  pub at_offset_within : (numbers : List ℕ) (at len : ℕ) → at / BLOCK_BYTES < length numbers
      → at % BLOCK_BYTES + len ≤ BLOCK_BYTES
      → take len (drop (at % BLOCK_BYTES) (content_of content (get_or numbers (at / BLOCK_BYTES) 0)))
      ≡ take len (drop at (bytes_of content numbers))
  unfolding bytes_of
  at_offset_within numbers at len less has_space =
      let offsets_agree : BLOCK_BYTES * (at / BLOCK_BYTES) + at % BLOCK_BYTES ≡ at = omega arith in
      sym (in_block numbers (at / BLOCK_BYTES) (at % BLOCK_BYTES) len less has_space)
      ∙ ap (λ k. take len (drop k (flat_map (content_of content) numbers))) offsets_agree

-- ---- of a file

module _ (snap : Snap) (blocks : Image) (tree : Tree) (file : ℕ) (inode : Inode)
    (has : HasInode snap blocks tree file inode) where
  abbrev g : Geometry
  g = snap.geometry

  abbrev content : Image
  content = content_in g blocks

  pub direct : length inode.direct ≡ DIRECT_INDEXES
  direct = (is_read g blocks tree file inode has.over.holds has.less has.there).fits.count

  pub long_content : (number : ℕ) → length (content number) ≡ BLOCK_BYTES
  long_content = long g blocks tree file inode has.over.holds has.less has.there

  pub next_piece : (number at len : ℕ) → at < LARGEST_FILE → at % BLOCK_BYTES + len ≤ BLOCK_BYTES
      → number ≡ number_at g blocks inode (at / BLOCK_BYTES)
      → take len (drop (at % BLOCK_BYTES) (content_of content number))
      ≡ take len (drop at (all_bytes g blocks inode))
  next_piece number at len less has_space is =
      let count = all-length content inode direct in
      ap (λ n. take len (drop (at % BLOCK_BYTES) (content_of content n))) is
      ∙ at_offset_within content long_content (numbers_of content inode) at len (omega (arith, count, less)) has_space

  first_number : (number : ℕ) → number ≡ number_at g blocks inode 0 → number ≡ get_or (take 1 inode.direct) 0 0
  first_number number is =
      is ∙ sym (direct_at g blocks inode 0 direct (omega arith)) ∙ sym (get_or-take 1 inode.direct 0 0 (omega arith))

  pub first_block : (number len : ℕ) → len ≤ BLOCK_BYTES → number ≡ number_at g blocks inode 0
      → take len (drop 0 (content_of content number)) ≡ take len (bytes_of content (take 1 inode.direct))
  first_block number len few is =
      let one = length-take-le 1 inode.direct (let count = direct in omega (arith, count)) in
      ap (λ n. take len (drop 0 (content_of content n))) (first_number number is)
      ∙ at_offset_within content long_content (take 1 inode.direct) 0 len (omega (arith, one)) (omega (arith, few))

  -- ---- sizes

  regular_kind : (kind : InodeKind) → kind ≡ kinds.Regular → is_sound_kind g kind inode ≡ true
      → inode.size ≤ LARGEST_FILE
  regular_kind kinds.Regular is good =
      let three = all_three (is_sound_file inode) (is_sound_map g inode) (is_sound_regular inode) good in
      no_more inode.size LARGEST_FILE (all_two (nat_le inode.size LARGEST_FILE) (nat_eq inode.parent 0) three.2).0
  regular_kind kinds.Directory is good = cc
  regular_kind kinds.Link is good = cc

  pub regular_small : inode.kind ≡ kinds.Regular → inode.size ≤ LARGEST_FILE
  regular_small is =
      regular_kind inode.kind is (is_sound g blocks tree file inode has.over.holds has.less has.there)

  link_kind : (kind : InodeKind) → kind ≡ kinds.Link → is_sound_kind g kind inode ≡ true
      → inode.size ≤ TARGET_BYTES
  link_kind kinds.Link is good =
      let three = all_three (is_sound_file inode) (is_sound_map g inode) (is_sound_link inode) good in
      let rules = all_five (nat_le 1 inode.size) (nat_le inode.size TARGET_BYTES) (nat_eq inode.parent 0)
      (names_first 1 inode.direct) (nat_eq inode.indirect 0)
      (all_two _ (nat_eq inode.double 0) (all_two _ (is_none inode.verifier) three.2).0).0 in
      no_more inode.size TARGET_BYTES rules.1
  link_kind kinds.Directory is good = cc
  link_kind kinds.Regular is good = cc

  pub link_small : inode.kind ≡ kinds.Link → inode.size ≤ TARGET_BYTES
  link_small is = link_kind inode.kind is (is_sound g blocks tree file inode has.over.holds has.less has.there)
