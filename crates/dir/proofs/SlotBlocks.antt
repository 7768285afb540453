-- The slots of a directory, block by block.
use Rattle.std.proofs.Common.{◌≡◌, ℕ, ◌+◌, ◌-◌, ◌*◌, ◌/◌, ◌<◌, ◌≤◌, sym, ap, ◌∙◌, refl, subst, Bool, true, false, not}
use Rattle.std.proofs.Common.{cond, List, [], ◌∷◌, length, take, drop, get_or, Result, Ok, Err, IsOk, nat_eq, arith}
use Rattle.std.proofs.Common.{◌%◌, is_none, min, nat_le, nat_lt, zero, suc, replicate}
use Rattle.std.specs.List.{flat_map, list_all}
use Rattle.std.proofs.lemmas.List.{get_or-take, length-take-le}
use Rattle.std.proofs.lemmas.List.FromFn.{get_or-range_with_len, length-range_with_len}
use Rattle.base.specs.declared.TheConstants.{BLOCK_BYTES, DIRECT_INDEXES, LARGEST_DIRECTORY, SLOTS_PER_BLOCK}
use Rattle.disk.specs.Crash.{Image}
use Rattle.nfs_spec.specs.Model.Tree.{Tree}
use Rattle.layout.specs.declared.geometry.Geometry.{Geometry}
use Rattle.layout.specs.declared.inode.Inode.{Inode}
use Rattle.layout.specs.declared.inode.InodeKind.{InodeKind}
use Rattle.layout.specs.declared.inode.InodeKind.TheVariants as kinds
use Rattle.layout.specs.declared.slot.TheConstants.{SLOT_BYTES}
use Rattle.layout.specs.Decode.{IsDirectory, IsOfKind, bytes_of, content_of, numbers_of, slot_bytes, slots_of, span_of}
use Rattle.layout.specs.InodeForm.{is_sound_directory, is_sound_file, is_sound_kind}
use Rattle.layout.specs.InodeForm.{is_sound_map, names_first}
use Rattle.layout.specs.Parts.{content_in}
use Rattle.layout.specs.SlotForm.{read_slot}
use Rattle.layout.proofs.AllNumbers.{all-length}
use Rattle.inode.specs.declared.snap.Snap.{Snap}
use Rattle.inode.specs.Over.{number_at}
use Rattle.inode.proofs.AllTests.{all_seven, all_three, all_two, no_more}
use Rattle.inode.proofs.InodeThere.{is_of_kind, is_sound}
use Rattle.inode.proofs.Pieces as pieces
use Rattle.dir.specs.Slots.{HasFault, IsDirectoryOf, block_slot, slot_at}

-- what a directory's inode shows, and what its blocks are
as_directory : (g : Geometry) (content : Image) (kind : InodeKind) (inode : Inode) → kind ≡ kinds.Directory
    → IsOfKind g content kind inode → IsDirectory g content inode
as_directory g content kinds.Directory inode is of_kind = of_kind
as_directory g content kinds.Regular inode is of_kind = cc
as_directory g content kinds.Link inode is of_kind = cc

small_size : (g : Geometry) (kind : InodeKind) (inode : Inode) → kind ≡ kinds.Directory
    → is_sound_kind g kind inode ≡ true → inode.size ≤ LARGEST_DIRECTORY
small_size g kinds.Directory inode is good =
    let three = all_three (is_sound_file inode) (is_sound_map g inode) (is_sound_directory g inode) good in
    let rules = all_seven (nat_le 2 inode.nlink) (nat_le inode.size LARGEST_DIRECTORY)
    (nat_eq (inode.size % BLOCK_BYTES) 0)
    (nat_lt 0 inode.parent) (nat_lt inode.parent g.inodes)
    (names_first (min (inode.size / BLOCK_BYTES) DIRECT_INDEXES) inode.direct)
    (cond (nat_lt DIRECT_INDEXES (inode.size / BLOCK_BYTES)) (not (nat_eq inode.indirect 0))
    (nat_eq inode.indirect 0))
    (all_two _ (nat_eq inode.double 0) (all_two _ (is_none inode.verifier) three.2).0).0 in
    no_more inode.size LARGEST_DIRECTORY rules.1
small_size g kinds.Regular inode is good = cc
small_size g kinds.Link inode is good = cc

some_at : (numbers : List ℕ) (index : ℕ) → index < length numbers
    → list_all (λ number. not (nat_eq number 0)) numbers ≡ true → nat_eq (get_or numbers index 0) 0 ≡ false
some_at [] index less all = absurd (omega (arith, less))
some_at (n ∷ numbers) zero less all =
    negated (nat_eq n 0) (all_two (not (nat_eq n 0)) (list_all (λ number. not (nat_eq number 0)) numbers) all).0
  where
    negated : (b : Bool) → not b ≡ true → b ≡ false
    negated true e = cc
    negated false e = refl
some_at (n ∷ numbers) (suc index) less all =
    some_at numbers index (omega (arith, less))
    (all_two (not (nat_eq n 0)) (list_all (λ number. not (nat_eq number 0)) numbers) all).1

module _ (snap : Snap) (blocks : Image) (tree : Tree) (file : ℕ) (inode : Inode)
    (is : IsDirectoryOf snap blocks tree file inode) where
  abbrev g : Geometry
  g = snap.geometry

  abbrev content : Image
  content = content_in g blocks

  abbrev numbers : List ℕ
  numbers = numbers_of content inode

  pub of_directory : IsDirectory g content inode
  of_directory =
      as_directory g content inode.kind inode is.kind
      (is_of_kind g blocks tree file inode is.has.over.holds is.has.less is.has.there)

  pub small : inode.size ≤ LARGEST_DIRECTORY
  small = small_size g inode.kind inode is.kind
      (is_sound g blocks tree file inode is.has.over.holds is.has.less is.has.there)

  count : span_of inode ≤ length numbers
  count =
      let all = all-length content inode (pieces.direct snap blocks tree file inode is.has) in
      let few = small in omega (arith, all, few)

  pub some_there : (number index : ℕ) → index < span_of inode → number ≡ number_at g blocks inode index
      → nat_eq number 0 ≡ false
  some_there number index less here =
      let fits = count in
      let long = length-take-le (span_of inode) numbers fits in
      ap (λ n. nat_eq n 0) (here ∙ sym (get_or-take (span_of inode) numbers index 0 less))
      ∙ some_at (take (span_of inode) numbers) index (omega (arith, long, less))
      (all_two (list_all (λ number. not (nat_eq number 0)) (take (span_of inode) numbers))
      (list_all (λ number. nat_eq number 0) (drop (span_of inode) numbers)) of_directory.spans).0

  -- a slot of a block that was read
  pub slot_there : (number index slot : ℕ) (block : List ℕ) → index < span_of inode
      → number ≡ number_at g blocks inode index → block ≡ content number
      → SLOTS_PER_BLOCK * index ≤ slot → slot < SLOTS_PER_BLOCK * index + SLOTS_PER_BLOCK
      → slot_at g.inodes content inode slot ≡ block_slot g.inodes (SLOTS_PER_BLOCK * index) block slot
  unfolding slot_bytes bytes_of
  slot_there number index slot block less here block_is low high =
      let fits = count in
      let long = length-take-le (span_of inode) numbers fits in
      let offsets_agree : SLOT_BYTES * slot ≡ BLOCK_BYTES * index + SLOT_BYTES * (slot - SLOTS_PER_BLOCK * index) =
      omega (arith, low) in
      ap (λ k. read_slot g.inodes (take SLOT_BYTES (drop k
      (flat_map (content_of content) (take (span_of inode) numbers))))) offsets_agree
      ∙ ap (read_slot g.inodes) (pieces.in_block content
      (pieces.long_content snap blocks tree file inode is.has) (take (span_of inode) numbers) index
      (SLOT_BYTES * (slot - SLOTS_PER_BLOCK * index)) SLOT_BYTES (omega (arith, long, less))
      (omega (arith, low, high)))
      ∙ ap (λ n. read_slot g.inodes (take SLOT_BYTES (drop (SLOT_BYTES * (slot - SLOTS_PER_BLOCK * index))
      (content_of content n)))) (get_or-take (span_of inode) numbers index 0 less ∙ sym here)
      ∙ ap (λ b. read_slot g.inodes (take SLOT_BYTES (drop (SLOT_BYTES * (slot - SLOTS_PER_BLOCK * index))
      b))) (ap (λ none. cond none (replicate BLOCK_BYTES 0) (content number)) (some_there number index less here)
      ∙ sym block_is)

  -- no slot of it is refused
  pub none_refused : (slot : ℕ) → slot < SLOTS_PER_BLOCK * span_of inode
      → IsOk (slot_at g.inodes content inode slot)
  none_refused slot less =
      let all = length-range_with_len 0 (SLOTS_PER_BLOCK * span_of inode) in
      let index : get_or (slots_of inode) slot 0 ≡ slot =
      get_or-range_with_len 0 (SLOTS_PER_BLOCK * span_of inode) slot 0 less ∙ omega arith in
      subst (λ k. IsOk (read_slot g.inodes (slot_bytes content inode k))) index
      (of_directory.slots slot 0 (omega (arith, all, less)))

no_fault : {A B : Type 0} (r : Result A B) (fault : B) → r ≡ Err fault → IsOk r → ⊥
no_fault (Ok a) fault e ok = cc
no_fault (Err b) fault e ok = let clash : false ≡ true = ok in cc

-- a fault in a block that was read is none of a directory's
pub no_fault_there : (snap : Snap) (blocks : Image) (tree : Tree) (file : ℕ) (inode : Inode) (index from : ℕ)
    (block : List ℕ) → IsDirectoryOf snap blocks tree file inode → index < span_of inode
    → ((slot : ℕ) → SLOTS_PER_BLOCK * index ≤ slot → slot < SLOTS_PER_BLOCK * index + SLOTS_PER_BLOCK
    → slot_at snap.geometry.inodes (content_in snap.geometry blocks) inode slot
    ≡ block_slot snap.geometry.inodes (SLOTS_PER_BLOCK * index) block slot)
    → SLOTS_PER_BLOCK * index ≤ from
    → HasFault (block_slot snap.geometry.inodes (SLOTS_PER_BLOCK * index) block) from
    (SLOTS_PER_BLOCK * index + SLOTS_PER_BLOCK) → ⊥
no_fault_there snap blocks tree file inode index from block is less there order fault =
    let low = fault.low in
    let high = fault.less in
    let here = there fault.slot (omega (arith, low, order)) high in
    no_fault _ fault.fault (here ∙ fault.is)
    (none_refused snap blocks tree file inode is fault.slot (omega (arith, high, less)))
