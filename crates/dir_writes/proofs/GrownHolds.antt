-- Blocks of an image to which a directory's new block was written hold the tree with the name in it.
use Rattle.std.proofs.Common.{◌≡◌, ℕ, ◌+◌, ◌-◌, ◌*◌, ◌/◌, ◌<◌, ◌≤◌, sym, ap, refl, subst, Bool, true, false, cond}
use Rattle.std.proofs.Common.{List, [], ◌∷◌, length, set, replicate, nat_eq, nat_lt, not, Some, Ok, arith}
use Rattle.base.specs.declared.TheConstants.{BLOCK_BYTES, DIRECT_INDEXES, FIRST_DOUBLE_INDEX, INDIRECT_INDEXES}
use Rattle.base.specs.declared.TheConstants.{SLOTS_PER_BLOCK}
use Rattle.disk.specs.Crash.{Image}
use Rattle.nfs_types.specs.Fits.{AreBytes}
use Rattle.objects.specs.Spliced.{spliced}
use Rattle.nfs_spec.specs.Model.Node.{Node}
use Rattle.nfs_spec.specs.Model.Tree.{Tree, with_node}
use Rattle.layout.specs.declared.geometry.Geometry.{Geometry}
use Rattle.layout.specs.declared.inode.Inode.{Inode}
use Rattle.layout.specs.declared.slot.TheConstants.{SLOT_BYTES}
use Rattle.layout.specs.Decode.{inode_at, span_of}
use Rattle.layout.specs.Fields.{four_bytes}
use Rattle.layout.specs.Holds.{Holds}
use Rattle.layout.specs.Parts.{content_in, put, with_bytes, with_inode}
use Rattle.layout.specs.Places.{is_data}
use Rattle.layout.proofs.FreshBytes.{IsBytes, join}
use Rattle.inode.specs.declared.snap.Snap.{Snap}
use Rattle.bitmap.specs.NewBlock.{HasTaken}
use Rattle.inode_data.specs.Filling.{Fills, grown_size, mapping}
use Rattle.inode_data.proofs.Cases.{block_named, block_named_indirect, block_named_first}
use Rattle.inode_data.proofs.PointerNumbers.{named_count}
use Rattle.inode_data.proofs.MappedFile.{long_content}
use Rattle.inode_data.proofs.PieceWritten.{not_zero}
use Rattle.inode_data.proofs.Stored.{content_are, named_are, zeros_are}
use Rattle.dir_writes.specs.NameInsertion.{with_name}
use Rattle.layout.specs.SlotForm.{first_slot}
use Rattle.dir_writes.specs.Growing.{IsGrowth}
use Rattle.dir_writes.proofs.GrownDirectory as grown
use Rattle.dir_writes.proofs.StoredGrowth.{both_hold, both_read, one_holds, one_read}
use Rattle.dir_writes.proofs.UsedBytes.{used_are, zero_bytes}

module _ (snap : Snap) (base : Image) (tree : Tree) (n : ℕ) (inode : Inode) (node : Node) (name : List ℕ)
    (number : ℕ) (grows : IsGrowth snap base tree n inode node name number) where
  abbrev g : Geometry
  g = snap.geometry

  abbrev content : Image
  content = content_in g base

  abbrev span : ℕ
  span = span_of inode

  abbrev offset : ℕ
  offset = BLOCK_BYTES * span

  abbrev block : List ℕ
  block = first_slot (record { number = number; name = name })

  abbrev next : Tree
  next = with_node tree n (with_name name number (SLOTS_PER_BLOCK * span) node)

  abbrev size : ℕ
  size = BLOCK_BYTES * (span + 1)

  at_index : offset / BLOCK_BYTES ≡ span
  at_index = omega arith

  block_are : AreBytes block
  block_are =
      let used : IsBytes _ = record { are = used_are (record { number = number; name = name }) grows.can.lawful.bytes } in
      let zeros : IsBytes (replicate (BLOCK_BYTES - SLOT_BYTES) 0) =
      record { are = zero_bytes (BLOCK_BYTES - SLOT_BYTES) } in
      (join used zeros).are

  count : length block ≡ BLOCK_BYTES
  count = grown.block_long snap base tree n inode node name number grows

  put_long : (c : Image) (b : ℕ) (bytes : List ℕ) → ((q : ℕ) → length (c q) ≡ BLOCK_BYTES)
      → length bytes ≡ BLOCK_BYTES → (q : ℕ) → length (put c b bytes q) ≡ BLOCK_BYTES
  put_long c b bytes all long q = by_test (nat_eq q b)
    where
      by_test : (t : Bool) → length (cond t bytes (c q)) ≡ BLOCK_BYTES
      by_test true = long
      by_test false = all q

  was_long : (q : ℕ) → length (content q) ≡ BLOCK_BYTES
  was_long = long_content g base tree n inode (grown.has snap base tree n inode node name number grows)

  abbrev Grows : Image → Inode → Type 0
  Grows image new =
      Holds g (with_inode g image n new) next × (inode_at g (with_inode g image n new) n ≡ Ok (Some new))

  abbrev as_grown : List ℕ → ℕ → Inode
  as_grown direct indirect_block = mapping inode (grown_size inode.size offset block) direct indirect_block inode.double

  sized : (direct : List ℕ) (indirect_block : ℕ) → as_grown direct indirect_block ≡ mapping inode size direct indirect_block inode.double
  sized direct indirect_block =
      ap (λ k. mapping inode k direct indirect_block inode.double) (grown.size_is snap base tree n inode node name number grows)

  module _ (gained : List ℕ) (middle : Image) (taken : HasTaken g base tree gained middle)
      (long : (q : ℕ) → q < g.blocks → length (middle q) ≡ BLOCK_BYTES) (b : ℕ) (lies : is_data g b ≡ true)
      (direct : List ℕ) (indirect_block : ℕ)
      (indirect_is : cond (nat_lt DIRECT_INDEXES (span + 1)) (not (nat_eq indirect_block 0)) (nat_eq indirect_block 0) ≡ true) where
    one : Fills g base inode offset block b direct indirect_block inode.double (put content b block) gained
        → Grows (with_bytes middle b 0 block) (mapping inode size direct indirect_block inode.double)
    one fills =
        let after = put content b block in
        let all = put_long content b block was_long count in
        let sound = grown.new_sound snap base tree n inode node name number grows b direct indirect_block after gained fills all
        indirect_is in
        subst (Grows (with_bytes middle b 0 block)) (sized direct indirect_block) (
          one_holds g base tree next n grows.is.has.less (as_grown direct indirect_block) sound gained middle taken long b block
              lies count block_are
              (grown.grown_parts snap base tree n inode node name number grows b direct indirect_block after gained fills all
              indirect_is),
          one_read g base tree next n grows.is.has.less (as_grown direct indirect_block) sound gained middle taken long b block
              lies count block_are,
        )

    both : (named : List ℕ) → is_data g indirect_block ≡ true → length named ≡ BLOCK_BYTES → AreBytes named
        → Fills g base inode offset block b direct indirect_block inode.double (put (put content indirect_block named) b block) gained
        → Grows (with_bytes (with_bytes middle indirect_block 0 named) b 0 block) (mapping inode size direct indirect_block inode.double)
    both named indirect_lies named_long named_each fills =
        let after = put (put content indirect_block named) b block in
        let all = put_long (put content indirect_block named) b block (put_long content indirect_block named was_long named_long) count in
        let sound = grown.new_sound snap base tree n inode node name number grows b direct indirect_block after gained fills all
        indirect_is in
        subst (Grows (with_bytes (with_bytes middle indirect_block 0 named) b 0 block)) (sized direct indirect_block) (
          both_hold g base tree next n grows.is.has.less (as_grown direct indirect_block) sound gained middle taken long b block
              lies count block_are indirect_block named indirect_lies named_long named_each
              (grown.grown_parts snap base tree n inode node name number grows b direct indirect_block after gained fills all
              indirect_is),
          both_read g base tree next n grows.is.has.less (as_grown direct indirect_block) sound gained middle taken long b block
              lies count block_are indirect_block named indirect_lies named_long named_each,
        )

  -- ---- the block is named by the inode, by the indirect block, or by a new one

  pub direct_grows : (b : ℕ) (middle : Image) → HasTaken g base tree (b ∷ []) middle
      → ((q : ℕ) → q < g.blocks → length (middle q) ≡ BLOCK_BYTES) → span < DIRECT_INDEXES
      → Grows (with_bytes middle b 0 block) (mapping inode size (set inode.direct span b) inode.indirect inode.double)
  direct_grows b middle taken long direct_part =
      subst (λ k. Grows (with_bytes middle b 0 block)
      (mapping inode size (set inode.direct k b) inode.indirect inode.double))
      at_index
      (one (b ∷ []) middle taken long b taken.were_free.0.lies (set inode.direct (offset / BLOCK_BYTES) b)
      inode.indirect (grown.indirect_unneeded snap base tree n inode node name number grows direct_part)
      (block_named g base tree n inode (grown.has snap base tree n inode node name number grows) offset block
      (grown.piece snap base tree n inode node name number grows) b block taken.were_free.0
      (grown.none_there snap base tree n inode node name number grows)
      (grown.block_is snap base tree n inode node name number grows)
      (subst (λ k. k < DIRECT_INDEXES) (sym at_index) direct_part)))

  -- a directory spans no index that the double indirect block reaches
  index_low : offset / BLOCK_BYTES < FIRST_DOUBLE_INDEX
  index_low =
      let few = grown.fewer snap base tree n inode node name number grows in
      let at = at_index in omega (arith, few, at)

  index_is_small : DIRECT_INDEXES ≤ span → offset / BLOCK_BYTES - DIRECT_INDEXES < INDIRECT_INDEXES
  index_is_small past =
      let few = grown.fewer snap base tree n inode node name number grows in
      let at = at_index in omega (arith, few, at, past)

  pub indirect_grows : (b : ℕ) (middle : Image) → HasTaken g base tree (b ∷ []) middle
      → ((q : ℕ) → q < g.blocks → length (middle q) ≡ BLOCK_BYTES) → DIRECT_INDEXES ≤ span
      → is_data g inode.indirect ≡ true
      → Grows (with_bytes (with_bytes middle inode.indirect 0
      (spliced (content inode.indirect) (4 * (span - DIRECT_INDEXES)) (four_bytes b))) b 0 block)
      (mapping inode size inode.direct inode.indirect inode.double)
  indirect_grows b middle taken long past indirect_lies =
      let indirect_block = inode.indirect in
      let index_within = offset / BLOCK_BYTES - DIRECT_INDEXES in
      let some = not_zero g indirect_block indirect_lies in
      subst (λ k. Grows (with_bytes (with_bytes middle indirect_block 0
      (spliced (content indirect_block) (4 * (k - DIRECT_INDEXES)) (four_bytes b))) b 0 block)
      (mapping inode size inode.direct indirect_block inode.double))
      at_index
      (both (b ∷ []) middle taken long b taken.were_free.0.lies inode.direct indirect_block
      (grown.indirect_needed snap base tree n inode node name number grows indirect_block past some)
      (spliced (content indirect_block) (4 * index_within) (four_bytes b)) indirect_lies
      (named_count (content indirect_block) index_within b (was_long indirect_block) (index_is_small past))
      (named_are (content indirect_block) (4 * index_within) b (content_are g base tree taken.holds indirect_block indirect_lies))
      (block_named_indirect g base tree n inode (grown.has snap base tree n inode node name number grows) offset block
      (grown.piece snap base tree n inode node name number grows) b block taken.were_free.0
      (grown.none_there snap base tree n inode node name number grows)
      (grown.block_is snap base tree n inode node name number grows)
      (subst (λ k. DIRECT_INDEXES ≤ k) (sym at_index) past) index_low some))

  pub first_grows : (indirect_block b : ℕ) (middle : Image) → HasTaken g base tree (indirect_block ∷ b ∷ []) middle
      → ((q : ℕ) → q < g.blocks → length (middle q) ≡ BLOCK_BYTES) → DIRECT_INDEXES ≤ span
      → nat_eq inode.indirect 0 ≡ true
      → Grows (with_bytes (with_bytes middle indirect_block 0
      (spliced (replicate BLOCK_BYTES 0) (4 * (span - DIRECT_INDEXES)) (four_bytes b))) b 0 block)
      (mapping inode size inode.direct indirect_block inode.double)
  first_grows indirect_block b middle taken long past none =
      let index_within = offset / BLOCK_BYTES - DIRECT_INDEXES in
      let indirect_lies = taken.were_free.0.lies in
      subst (λ k. Grows (with_bytes (with_bytes middle indirect_block 0
      (spliced (replicate BLOCK_BYTES 0) (4 * (k - DIRECT_INDEXES)) (four_bytes b))) b 0 block)
      (mapping inode size inode.direct indirect_block inode.double)) at_index
      (both (indirect_block ∷ b ∷ []) middle taken long b taken.were_free.1.0.lies inode.direct indirect_block
      (grown.indirect_needed snap base tree n inode node name number grows indirect_block past (not_zero g indirect_block indirect_lies))
      (spliced (replicate BLOCK_BYTES 0) (4 * index_within) (four_bytes b)) indirect_lies
      (named_count (replicate BLOCK_BYTES 0) index_within b refl (index_is_small past))
      (named_are (replicate BLOCK_BYTES 0) (4 * index_within) b zeros_are)
      (block_named_first g base tree n inode (grown.has snap base tree n inode node name number grows) offset block
      (grown.piece snap base tree n inode node name number grows) b block taken.were_free.1.0
      (grown.none_there snap base tree n inode node name number grows)
      (grown.block_is snap base tree n inode node name number grows)
      (subst (λ k. DIRECT_INDEXES ≤ k) (sym at_index) past) index_low none indirect_block taken.were_free.0 taken.once))
