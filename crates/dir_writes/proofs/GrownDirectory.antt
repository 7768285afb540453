-- A directory that has one block more, in whose first slot a name lies.
use Rattle.std.proofs.Common.{◌≡◌, ℕ, zero, suc, ◌+◌, ◌-◌, ◌*◌, ◌/◌, ◌%◌, ◌<◌, ◌≤◌, max, min, inl, inr, sym, ap, ◌∙◌, refl}
use Rattle.std.proofs.Common.{subst, Bool, true, false, cond, not, ◌&&◌, List, [], ◌∷◌, ◌++◌, length, take, drop}
use Rattle.std.proofs.Common.{get_or, set, replicate, nat_eq, nat_le, nat_lt, is_none, IsOk, Some, None, Ok, arith}
use Rattle.std.proofs.Math.Seq.{take-append_seam, drop-append_seam}
use Rattle.std.specs.Cmp.Lexicographic.{nat_list_cmp_total, slice_cmp}
use Rattle.std.specs.FinMap as map
use Rattle.std.specs.FinMap.{find, from_entries, get, get-from_entries, insert}
use Rattle.std.specs.List.{flat_map, list_all}
use Rattle.std.specs.Ordering.{nat_cmp}
use Rattle.std.proofs.lemmas.Bool.Decides.{nat_tests}
use Rattle.std.proofs.lemmas.Bool.{cases_eq, cases_lt, eq-eqb, le-leb, le-ltb, lt-ltb}
use Rattle.std.proofs.Common.{◌⊎◌, filter, length-append}
use Rattle.std.proofs.lemmas.List.{append_assoc, drop-drop, length-replicate, get_or-set_other, get_or-set_same, get_or-take}
use Rattle.std.proofs.lemmas.List.{length-set, length-take-le}
use Rattle.std.proofs.lemmas.List.FromFn.{get_or-range_with_len, length-range_with_len}
use Rattle.std.proofs.lemmas.List.Elements.{All-from_get_or}
use Rattle.base.specs.declared.TheConstants.{BLOCK_BYTES, DIRECT_INDEXES, FILE_INDEXES, LARGEST_DIRECTORY}
use Rattle.base.specs.declared.TheConstants.{MOST_SPAN, SLOTS_PER_BLOCK}
use Rattle.disk.specs.Crash.{Image}
use Rattle.objects.specs.Spliced.{spliced}
use Rattle.nfs_spec.specs.Model.Node.{Body, DirentValue, Entries, Node}
use Rattle.nfs_spec.specs.Model.Node as nodes
use Rattle.nfs_spec.specs.Model.Tree.{Tree, with_node}
use Rattle.nfs_spec.specs.Model.Tree as trees
use Rattle.nfs_spec.specs.Procedures.Changes.{with_dirent}
use Rattle.procs_files.specs.Writable.{IsOwnSlot, adds}
use Rattle.layout.specs.declared.geometry.Geometry.{Geometry}
use Rattle.layout.specs.declared.inode.Inode.{Inode}
use Rattle.layout.specs.declared.inode.InodeKind.{InodeKind}
use Rattle.layout.specs.declared.inode.InodeKind.TheVariants as kinds
use Rattle.layout.specs.declared.slot.Slot.{Slot}
use Rattle.layout.specs.declared.slot.TheConstants.{SLOT_BYTES}
use Rattle.layout.specs.Decode.{IsDirectory, IsOfKind, body_of, bytes_of, content_of, directory_in, doubled_in}
use Rattle.layout.specs.Decode.{entries_in, named_in, node_with, numbers_in, numbers_of, pointer_blocks, slot_bytes}
use Rattle.layout.specs.Decode.{slots_of, span_of}
use Rattle.layout.proofs.AllNumbers.{maps}
use Rattle.layout.proofs.FileNumbers.{pointers_pass}
use Rattle.layout.proofs.Written.{not_same}
use Rattle.layout.specs.InodeForm.{SoundInode, is_data_block_or_none, is_sound_directory, is_sound_file, is_sound_inode}
use Rattle.layout.specs.InodeForm.{is_sound_kind, is_sound_map, names_first}
use Rattle.layout.specs.Owners.{owned_by}
use Rattle.layout.specs.Holds.{PartsHold}
use Rattle.layout.specs.Parts.{content_in}
use Rattle.layout.specs.SlotForm.{SoundSlot, read_slot, used_bytes}
use Rattle.layout.proofs.SlotBytes.{free_read}
use Rattle.inode.specs.declared.snap.Snap.{Snap}
use Rattle.inode.proofs.AllTests.{all_three}
use Rattle.inode.proofs.Pieces.{in_block}
use Rattle.bitmap.proofs.Gained.{grown, grown_holds}
use Rattle.dir.specs.Slots.{Lying, slot_at}
use Rattle.dir.proofs.FoundIn.{entries}
use Rattle.dir.proofs.SlotBlocks.{of_directory}
use Rattle.inode.proofs.WriteSetsLemmas.Marks.{times}
use Rattle.inode_data.specs.Filling.{Fills, HasMapped, IsPiece, grown_size, mapping}
use Rattle.inode_data.proofs.MappedFile as mapped
use Rattle.inode_data.proofs.OneNumber.{all_still, is_some}
use Rattle.inode_data.proofs.PieceWritten.{not_zero, or_data}
use Rattle.layout.specs.SlotForm.{first_slot}
use Rattle.dir_writes.specs.Growing.{IsGrowth}
use Rattle.dir_writes.proofs.EnteredName.{entered, gains}
use Rattle.dir_writes.proofs.Lost.{IsOnce}
use Rattle.dir_writes.proofs.NumbersMore.{names_direct, names_more, none_behind, some_before}
use Rattle.dir_writes.proofs.SlotNames.{alike_entries, relaid}
use Rattle.dir_writes.proofs.Places.{lies_at}
use Rattle.dir_writes.proofs.SlotHolds.{whole_spliced}
use Rattle.dir_writes.proofs.Spanned.{body_there, node_there}
use Rattle.dir_writes.proofs.UsedBytes.{used_long, used_read}
use Rattle.dir_writes.proofs.WideSlots.{as_many, past, widened, within}

all_nine : (a b c d e f h k l : Bool) → (a && b && c && d && e && f && h && k && l) ≡ true
    → (a ≡ true) × (b ≡ true) × (c ≡ true) × (d ≡ true) × (e ≡ true) × (f ≡ true) × (h ≡ true) × (k ≡ true)
    × (l ≡ true)
all_nine true true true true true true true true true e = (refl, refl, refl, refl, refl, refl, refl, refl, refl)
all_nine _ _ _ _ _ _ _ _ _ e = cc

same_number : (a b : ℕ) → nat_eq a b ≡ true → a ≡ b
same_number a b e = grind (arith, nat_tests)

-- ---- the slots of a block in whose first slot a name lies

abbrev piece_of : List ℕ → ℕ → List ℕ
piece_of block k = take SLOT_BYTES (drop (SLOT_BYTES * (k % SLOTS_PER_BLOCK)) block)

module _ (slot : Slot) (long : length (used_bytes slot) ≡ SLOT_BYTES) where
  abbrev zeros : List ℕ
  zeros = replicate (BLOCK_BYTES - SLOT_BYTES) 0

  at_first : (k : ℕ) → k % SLOTS_PER_BLOCK ≡ 0 → piece_of (first_slot slot) k ≡ used_bytes slot
  at_first k first =
      ap (λ m. take SLOT_BYTES (drop m (first_slot slot))) (none (k % SLOTS_PER_BLOCK) first)
      ∙ ap (λ n. take n (first_slot slot)) (sym long)
      ∙ take-append_seam (used_bytes slot) zeros
    where
      none : (m : ℕ) → m ≡ 0 → SLOT_BYTES * m ≡ 0
      none m e = omega (arith, e)

  few_zeros : (n m : ℕ) → m ≤ n → take {A = ℕ} m (replicate n 0) ≡ replicate m 0
  few_zeros n zero low = none (replicate n 0)
    where
      none : (xs : List ℕ) → take {A = ℕ} 0 xs ≡ []
      none [] = refl
      none (x ∷ xs) = refl
  few_zeros zero (suc m) low = absurd (omega (arith, low))
  few_zeros (suc n) (suc m) low = ap (λ (l : List ℕ). 0 ∷ l) (few_zeros n m (omega (arith, low)))

  rest_zeros : (n r : ℕ) → drop {A = ℕ} r (replicate n 0) ≡ replicate (n - r) 0
  rest_zeros n zero = none (replicate n 0) ∙ ap (λ k. replicate k 0) (less n)
    where
      none : (xs : List ℕ) → drop 0 xs ≡ xs
      none [] = refl
      none (x ∷ xs) = refl

      less : (n : ℕ) → n ≡ n - 0
      less n = omega arith
  rest_zeros zero (suc r) = ap (λ k. replicate k 0) (less r)
    where
      less : (r : ℕ) → 0 ≡ 0 - suc r
      less r = omega arith
  rest_zeros (suc n) (suc r) = rest_zeros n r ∙ ap (λ k. replicate k 0) (less n r)
    where
      less : (n r : ℕ) → n - r ≡ suc n - suc r
      less n r = omega arith

  at_others : (k : ℕ) → 1 ≤ k % SLOTS_PER_BLOCK → piece_of (first_slot slot) k ≡ replicate SLOT_BYTES 0
  at_others k some =
      let r = SLOT_BYTES * (k % SLOTS_PER_BLOCK) - SLOT_BYTES in
      let there : SLOT_BYTES * (k % SLOTS_PER_BLOCK) ≡ length (used_bytes slot) + r = omega (arith, some, long) in
      ap (λ m. take SLOT_BYTES (drop m (first_slot slot))) there
      ∙ ap (take SLOT_BYTES) (sym (drop-drop r (length (used_bytes slot)) (first_slot slot))
      ∙ ap (drop r) (drop-append_seam (used_bytes slot) zeros)
      ∙ rest_zeros (BLOCK_BYTES - SLOT_BYTES) r)
      ∙ few_zeros (BLOCK_BYTES - SLOT_BYTES - r) SLOT_BYTES (omega arith)

module _ (snap : Snap) (base : Image) (tree : Tree) (n : ℕ) (inode : Inode) (node : Node) (name : List ℕ)
    (number : ℕ) (grows : IsGrowth snap base tree n inode node name number) where
  abbrev pub g : Geometry
  g = snap.geometry

  abbrev pub content : Image
  content = content_in g base

  abbrev numbers : List ℕ
  numbers = numbers_of content inode

  abbrev pub span : ℕ
  span = span_of inode

  abbrev pub s : ℕ
  s = SLOTS_PER_BLOCK * span

  abbrev pub slot : Slot
  slot = record { number = number; name = name }

  abbrev pub block : List ℕ
  block = first_slot slot

  abbrev pub offset : ℕ
  offset = BLOCK_BYTES * span

  abbrev dirent : DirentValue
  dirent = record { number = number; slot = s }

  abbrev held : Entries
  held = entries_in g.inodes content inode

  abbrev lies : Lying
  lies = slot_at g.inodes content inode

  dir : IsDirectory g content inode
  dir = of_directory snap base tree n inode grows.is

  pub has : HasMapped g base tree n inode
  has = record {
    holds = grows.is.has.over.holds;
    less = grows.is.has.less;
    read = grows.is.has.there;
    mapped = dir.mapped;
  }

  count : length numbers ≡ FILE_INDEXES
  count = mapped.count g base tree n inode has

  sound : SoundInode g inode
  sound = mapped.sound g base tree n inode has

  good : is_sound_kind g kinds.Directory inode ≡ true
  unfolding is_sound_inode
  good = subst (λ kind. is_sound_kind g kind inode ≡ true) grows.is.kind sound.good

  tests : (is_sound_file inode ≡ true) × (is_sound_map g inode ≡ true) × (is_sound_directory g inode ≡ true)
  tests = all_three (is_sound_file inode) (is_sound_map g inode) (is_sound_directory g inode) good

  pub fewer : span < MOST_SPAN
  fewer = let most = grows.can.slot in omega (arith, most)

  low : span < length numbers
  low = let few = fewer in let all = count in omega (arith, few, all)

  long_slot : length (used_bytes slot) ≡ SLOT_BYTES
  long_slot = used_long slot grows.can.lawful.short

  pub block_long : length block ≡ BLOCK_BYTES
  block_long =
      let one = long_slot in
      let all = length-append (used_bytes slot) (replicate (BLOCK_BYTES - SLOT_BYTES) 0) in
      let rest = length-replicate {A = ℕ} (BLOCK_BYTES - SLOT_BYTES) 0 in
      omega (arith, one, all, rest)

  pub piece : IsPiece offset block
  piece =
      let long = block_long in let few = fewer in
      record {
        some = omega (arith, long);
        within = omega (arith, long);
        small = omega (arith, long, few);
      }

  at_index : offset / BLOCK_BYTES ≡ span
  at_index = omega arith

  pub none_there : nat_eq (get_or numbers (offset / BLOCK_BYTES) 0) 0 ≡ true
  none_there = ap (λ k. nat_eq (get_or numbers k 0) 0) at_index ∙ none_behind numbers span low dir.spans

  -- the block is what is put at its place
  pub block_is : block ≡ spliced (content_of content (get_or numbers (offset / BLOCK_BYTES) 0)) (offset % BLOCK_BYTES)
      block
  block_is = sym (ap (λ t. spliced (cond t (replicate BLOCK_BYTES 0) (content (get_or numbers (offset / BLOCK_BYTES) 0)))
      (offset % BLOCK_BYTES) block) none_there
      ∙ ap (λ k. spliced (replicate BLOCK_BYTES 0) k block) at_start
      ∙ whole_spliced (replicate BLOCK_BYTES 0) block
      (length-replicate {A = ℕ} BLOCK_BYTES 0 ∙ sym block_long))
    where
      at_start : offset % BLOCK_BYTES ≡ 0
      at_start = omega arith

  whole_size : inode.size ≡ BLOCK_BYTES * span
  whole_size =
      let nine = all_nine (nat_le 2 inode.nlink) (nat_le inode.size LARGEST_DIRECTORY)
      (nat_eq (inode.size % BLOCK_BYTES) 0) (nat_lt 0 inode.parent) (nat_lt inode.parent g.inodes)
      (names_first (min (inode.size / BLOCK_BYTES) DIRECT_INDEXES) inode.direct)
      (cond (nat_lt DIRECT_INDEXES (inode.size / BLOCK_BYTES)) (not (nat_eq inode.indirect 0))
      (nat_eq inode.indirect 0)) (nat_eq inode.double 0) (is_none inode.verifier) tests.2 in
      let whole = same_number (inode.size % BLOCK_BYTES) 0 nine.2 in omega (arith, whole)

  pub size_is : grown_size inode.size offset block ≡ BLOCK_BYTES * (span + 1)
  size_is = let whole = whole_size in let long = block_long in omega (arith, whole, long)

  -- ---- its indirect block

  indirect_rule : cond (nat_lt DIRECT_INDEXES span) (not (nat_eq inode.indirect 0)) (nat_eq inode.indirect 0) ≡ true
  indirect_rule = (all_nine (nat_le 2 inode.nlink) (nat_le inode.size LARGEST_DIRECTORY)
      (nat_eq (inode.size % BLOCK_BYTES) 0) (nat_lt 0 inode.parent) (nat_lt inode.parent g.inodes)
      (names_first (min (inode.size / BLOCK_BYTES) DIRECT_INDEXES) inode.direct)
      (cond (nat_lt DIRECT_INDEXES (inode.size / BLOCK_BYTES)) (not (nat_eq inode.indirect 0))
      (nat_eq inode.indirect 0)) (nat_eq inode.double 0) (is_none inode.verifier) tests.2).6

  no_indirect : span ≤ DIRECT_INDEXES → nat_eq inode.indirect 0 ≡ true
  no_indirect few = sym (ap (λ t. cond t (not (nat_eq inode.indirect 0)) (nat_eq inode.indirect 0))
      (le-ltb DIRECT_INDEXES span few)) ∙ indirect_rule

  pub indirect_unneeded : span < DIRECT_INDEXES
      → cond (nat_lt DIRECT_INDEXES (span + 1)) (not (nat_eq inode.indirect 0)) (nat_eq inode.indirect 0) ≡ true
  indirect_unneeded few = ap (λ t. cond t (not (nat_eq inode.indirect 0)) (nat_eq inode.indirect 0))
      (le-ltb DIRECT_INDEXES (span + 1) (omega (arith, few))) ∙ no_indirect (omega (arith, few))

  pub indirect_needed : (indirect_block : ℕ) → DIRECT_INDEXES ≤ span → nat_eq indirect_block 0 ≡ false
      → cond (nat_lt DIRECT_INDEXES (span + 1)) (not (nat_eq indirect_block 0)) (nat_eq indirect_block 0) ≡ true
  indirect_needed indirect_block many some = (λ i. cond (lt-ltb DIRECT_INDEXES (span + 1) (omega (arith, many)) i) (not (some i)) (some i))

  -- the first block past the direct ones takes another, too
  pub first_indirect : nat_eq inode.indirect 0 ≡ true → span ≤ DIRECT_INDEXES
  first_indirect none = elim (cases_lt DIRECT_INDEXES span) [
    | inl many ↦
        let rule = sym (ap (λ t. cond t (not (nat_eq inode.indirect 0)) (nat_eq inode.indirect 0))
        (lt-ltb DIRECT_INDEXES span many)) ∙ indirect_rule in
        let clash : false ≡ true = sym (ap not none) ∙ rule in cc
    | inr few ↦ few
  ]

  pub indirect_lies_in_data : is_data_block_or_none g inode.indirect ≡ true
  indirect_lies_in_data = (maps g inode sound).1

  was_body : node.body ≡ directory_in g.inodes content inode
  was_body = body_there snap base tree n inode node grows.is.has grows.was
      ∙ directory_body g content inode inode.kind grows.is.kind
    where
      directory_body : (g : Geometry) (content : Image) (inode : Inode) (kind : InodeKind) → kind ≡ kinds.Directory
          → body_of g.inodes content kind inode ≡ directory_in g.inodes content inode
      directory_body g content inode kinds.Directory e = refl
      directory_body g content inode kinds.Regular e = cc
      directory_body g content inode kinds.Link e = cc

  -- the blocks that it takes
  pub takes : adds (with_dirent name dirent node.body) node.body
      ≡ span + 1 + cond (nat_lt DIRECT_INDEXES (span + 1)) 1 0 - (span + cond (nat_lt DIRECT_INDEXES span) 1 0)
  takes =
      ap (λ (b : Body). adds (with_dirent name dirent b) b) was_body
      ∙ ap (λ (k : ℕ). k + cond (nat_lt DIRECT_INDEXES k) 1 0 - (span + cond (nat_lt DIRECT_INDEXES span) 1 0))
      (sym (wide span))
    where
      wide : (k : ℕ) → k + 1 ≡ max k (suc (SLOTS_PER_BLOCK * k / SLOTS_PER_BLOCK))
      wide k = omega arith

  pub takes_one : 1 ≤ adds (with_dirent name dirent node.body) node.body
  takes_one = by_test takes (cases_lt DIRECT_INDEXES span)
    where
      by_test : {k : ℕ} → k ≡ span + 1 + cond (nat_lt DIRECT_INDEXES (span + 1)) 1 0
          - (span + cond (nat_lt DIRECT_INDEXES span) 1 0) → (DIRECT_INDEXES < span) ⊎ (span ≤ DIRECT_INDEXES)
          → 1 ≤ k
      by_test e (inl many) =
          let one = ap {B = ℕ} (λ (t : Bool). cond t 1 0) (lt-ltb DIRECT_INDEXES span many) in
          let two = ap {B = ℕ} (λ (t : Bool). cond t 1 0) (lt-ltb DIRECT_INDEXES (span + 1) (omega (arith, many))) in
          omega (arith, e, one, two)
      by_test e (inr few) =
          let one = ap {B = ℕ} (λ (t : Bool). cond t 1 0) (le-ltb DIRECT_INDEXES span few) in
          omega (arith, e, one)

  pub takes_two : span ≡ DIRECT_INDEXES → adds (with_dirent name dirent node.body) node.body ≡ 2
  takes_two at = takes ∙ ap (λ (k : ℕ). k + 1 + cond (nat_lt DIRECT_INDEXES (k + 1)) 1 0
      - (k + cond (nat_lt DIRECT_INDEXES k) 1 0)) at

  module _ (b : ℕ) (direct : List ℕ) (indirect_block : ℕ) (after : Image) (gained : List ℕ)
      (fills : Fills g base inode offset block b direct indirect_block inode.double after gained)
      (long_after : (q : ℕ) → length (after q) ≡ BLOCK_BYTES)
      (indirect_is : cond (nat_lt DIRECT_INDEXES (span + 1)) (not (nat_eq indirect_block 0)) (nat_eq indirect_block 0) ≡ true) where
    abbrev pub new : Inode
    new = mapping inode (grown_size inode.size offset block) direct indirect_block inode.double

    new_span : span_of new ≡ span + 1
    new_span = let size = size_is in omega (arith, size)

    now : numbers_of after new ≡ set numbers span b
    now = fills.now ∙ ap (λ k. set numbers k b) at_index

    b_some : nat_eq b 0 ≡ false
    b_some = not_zero g b fills.lies

    spans_now : names_first (span_of new) (numbers_of after new) ≡ true
    spans_now = (λ i. names_first (new_span i) (now i)) ∙ ap (λ k. names_first k (set numbers span b)) (plus span)
        ∙ names_more numbers span b low dir.spans b_some
      where
        plus : (k : ℕ) → k + 1 ≡ suc k
        plus k = omega arith

    -- ---- its slots

    abbrev spanned : List ℕ
    spanned = take (span + 1) (set numbers span b)

    spanned_long : length spanned ≡ span + 1
    spanned_long =
        let all = length-set numbers span b in let less = low in
        length-take-le (span + 1) (set numbers span b) (omega (arith, all, less))

    bytes_now : (k : ℕ) → slot_bytes after new k
        ≡ take SLOT_BYTES (drop (SLOT_BYTES * k) (flat_map (content_of after) spanned))
    unfolding slot_bytes bytes_of
    bytes_now k = λ i. take SLOT_BYTES (drop (SLOT_BYTES * k)
        (flat_map (content_of after) (take (new_span i) (now i))))

    bytes_before : (k : ℕ) → slot_bytes content inode k
        ≡ take SLOT_BYTES (drop (SLOT_BYTES * k) (flat_map (content_of content) (take span numbers)))
    unfolding slot_bytes bytes_of
    bytes_before k = refl

    at_slot_within : (c : Image) → ((q : ℕ) → length (c q) ≡ BLOCK_BYTES) → (ns : List ℕ) (k : ℕ)
        → k / SLOTS_PER_BLOCK < length ns
        → take SLOT_BYTES (drop (SLOT_BYTES * k) (flat_map (content_of c) ns))
        ≡ piece_of (content_of c (get_or ns (k / SLOTS_PER_BLOCK) 0)) k
    at_slot_within c longs ns k less =
        let offsets_agree : SLOT_BYTES * k ≡ BLOCK_BYTES * (k / SLOTS_PER_BLOCK) + SLOT_BYTES * (k % SLOTS_PER_BLOCK) =
        omega arith in
        ap (λ p. take SLOT_BYTES (drop p (flat_map (content_of c) ns))) offsets_agree
        ∙ in_block c longs ns (k / SLOTS_PER_BLOCK) (SLOT_BYTES * (k % SLOTS_PER_BLOCK)) SLOT_BYTES less
        (omega arith)

    -- a block that it had
    before : (k : ℕ) → k < s → slot_at g.inodes after new k ≡ lies k
    before k less =
        let j = k / SLOTS_PER_BLOCK in
        let few : j < span = omega (arith, less) in
        let all = low in
        let many = spanned_long in
        let one : get_or spanned j 0 ≡ get_or numbers j 0 =
        get_or-take (span + 1) (set numbers span b) j 0 (omega (arith, few))
        ∙ get_or-set_other numbers span j b 0 (λ same. omega (arith, same, few)) in
        let some = some_before numbers span j all few dir.spans in
        let still = ap (λ t. cond t (replicate BLOCK_BYTES 0) (after (get_or numbers j 0))) some
        ∙ fills.others j (omega (arith, few, all)) (λ same. omega (arith, same, few)) some
        ∙ sym (ap (λ t. cond t (replicate BLOCK_BYTES 0) (content (get_or numbers j 0))) some) in
        let was_long = length-take-le span numbers (omega (arith, all)) in
        ap (read_slot g.inodes) (bytes_now k ∙ at_slot_within after long_after spanned k (omega (arith, few, many))
        ∙ ap (λ q. piece_of (content_of after q) k) one
        ∙ ap (λ l. piece_of l k) still
        ∙ ap (λ q. piece_of (content_of content q) k) (sym (get_or-take span numbers j 0 few))
        ∙ sym (at_slot_within content (mapped.long_content g base tree n inode has) (take span numbers) k
        (omega (arith, few, was_long)))
        ∙ sym (bytes_before k))

    -- the new one
    in_new : (k : ℕ) → s ≤ k → k < s + SLOTS_PER_BLOCK
        → slot_at g.inodes after new k ≡ read_slot g.inodes (piece_of block k)
    in_new k more less =
        let many = spanned_long in
        let all = low in
        let here : k / SLOTS_PER_BLOCK ≡ span = omega (arith, more, less) in
        ap (read_slot g.inodes) (bytes_now k ∙ at_slot_within after long_after spanned k (omega (arith, here, many))
        ∙ ap (λ j. piece_of (content_of after (get_or spanned j 0)) k) here
        ∙ ap (λ q. piece_of (content_of after q) k) (get_or-take (span + 1) (set numbers span b) span 0 (omega arith)
        ∙ get_or-set_same numbers span b 0 all)
        ∙ ap (λ t. piece_of (cond t (replicate BLOCK_BYTES 0) (after b)) k) b_some
        ∙ ap (λ l. piece_of l k) (fills.here ∙ sym block_is))

    sound_slot : SoundSlot g.inodes slot
    sound_slot =
        let inside = grows.can.within in
        let same = ap (λ (k : trees.Geometry). k.inodes) has.holds.parts.geometry in
        let few = g.lawful.1.1 in
        let some = grows.can.some in
        let one = grows.can.lawful.some in
        let short = grows.can.lawful.short in
        record {
          number = (some, omega (arith, inside, same), omega (arith, inside, same, few));
          name = (omega (arith, one), short);
        }

    abbrev end : ℕ
    end = s + SLOTS_PER_BLOCK

    abbrev then : Lying
    then = relaid (widened lies s) s (Some slot)

    alike : (k : ℕ) → k < end → slot_at g.inodes after new k ≡ then k
    alike k less = elim (cases_lt k s) [
      | inl early ↦ before k early ∙ sym (within lies s k early)
          ∙ sym (ap (λ t. cond t (Ok (Some slot)) (widened lies s k)) (not_same k s (λ same. omega (arith, same, early))))
      | inr late ↦ (elim (cases_eq k s) [
        | inl same ↦ in_new k late less
            ∙ ap (read_slot g.inodes) (at_first slot long_slot k (omega (arith, same)))
            ∙ used_read g.inodes slot sound_slot
            ∙ sym (ap (λ t. cond t (Ok (Some slot)) (widened lies s k)) (eq-eqb k s same))
        | inr differ ↦ in_new k late less
            ∙ ap (read_slot g.inodes) (at_others slot long_slot k (behind k late less differ))
            ∙ free_read g.inodes
            ∙ sym (past lies s k late)
            ∙ sym (ap (λ t. cond t (Ok (Some slot)) (widened lies s k)) (not_same k s differ))
      ])
    ]
      where
        behind : (k : ℕ) → s ≤ k → k < end → (k ≡ s → ⊥) → 1 ≤ k % SLOTS_PER_BLOCK
        behind k late less differ = omega (arith, late, less, differ)

    new_end : SLOTS_PER_BLOCK * span_of new ≡ end
    new_end = let wide = new_span in omega (arith, wide)

    named : named_in g.inodes after new ≡ entries then 0 end
    unfolding named_in
    named = ap (entries (slot_at g.inodes after new) 0) new_end
        ∙ alike_entries (slot_at g.inodes after new) then 0 end (λ k low high. alike k (omega (arith, high)))

    wide_entries : entries (widened lies s) 0 end ≡ entries lies 0 s
    wide_entries = as_many lies s 0 s SLOTS_PER_BLOCK (omega arith)

    once : IsOnce (entries (widened lies s) 0 end)
    unfolding named_in
    once = subst IsOnce (sym wide_entries) dir.once

    made : held ≡ from_entries {R = slice_cmp nat_cmp} (entries (widened lies s) 0 end)
    unfolding named_in
    made = ap (λ es. from_entries {R = slice_cmp nat_cmp} es) (sym wide_entries)

    by_own : IsOwnSlot (directory_in g.inodes content inode) name dirent
        → get held name ≡ None
    by_own (inl new) = new.0
    by_own (inr old) =
        let lying = lies_at g.inodes content inode name (record { number = old.0.number; slot = old.0.slot })
        (sym old.1) in
        let less = lying.less in let here = old.2 in absurd (omega (arith, less, here))

    absent : find (slice_cmp nat_cmp) name (entries (widened lies s) 0 end) ≡ None
    absent =
        sym (get-from_entries nat_list_cmp_total (entries (widened lies s) 0 end) name)
        ∙ ap (λ (m : Entries). get m name) (sym made)
        ∙ by_own (subst (λ (b : Body). IsOwnSlot b name dirent) was_body grows.can.own)

    free_there : widened lies s s ≡ Ok None
    free_there = past lies s s (omega arith)

    entries_now : entries_in g.inodes after new ≡ insert held name dirent
    entries_now =
        ap (λ es. from_entries {R = slice_cmp nat_cmp} es) named
        ∙ entered (widened lies s) name s number free_there end (omega arith) once absent
        ∙ ap (λ (m : Entries). insert m name dirent) (sym made)

    slot_ok : (k : ℕ) → k < end → IsOk (slot_at g.inodes after new k)
    slot_ok k less = subst (λ r. IsOk r) (sym (alike k less)) (by_test (nat_eq k s) (cases_lt k s))
      where
        was : k < s → IsOk (lies k)
        was early =
            let all = length-range_with_len 0 s in
            subst (λ j. IsOk (lies j)) (get_or-range_with_len 0 s k 0 early ∙ plus)
            (dir.slots k 0 (omega (arith, early, all)))
          where
            plus : 0 + k ≡ k
            plus = omega arith

        by_test : (t : Bool) → (k < s) ⊎ (s ≤ k) → IsOk (cond t (Ok (Some slot)) (widened lies s k))
        by_test true where_is = refl
        by_test false (inl early) = subst (λ r. IsOk r) (sym (within lies s k early)) (was early)
        by_test false (inr late) = subst (λ r. IsOk r) (sym (past lies s k late)) refl

    rules : IsDirectory g after new
    rules = record {
      mapped = record {
        pointers = fills.pointers_placed;
        numbers = ap (list_all (is_data_block_or_none g)) fills.now
            ∙ all_still (is_data_block_or_none g) numbers (offset / BLOCK_BYTES) b dir.mapped.numbers
            (or_data g b fills.lies);
        used = fills.used;
      };
      spans = spans_now;
      slots = All-from_get_or (λ k. IsOk (read_slot g.inodes (slot_bytes after new k))) (slots_of new) 0
          (λ k inside.
          let many = length-range_with_len 0 (SLOTS_PER_BLOCK * span_of new) in
          let wide = new_end in
          let less : k < SLOTS_PER_BLOCK * span_of new = omega (arith, inside, many) in
          subst (λ j. IsOk (slot_at g.inodes after new j))
          (sym (get_or-range_with_len 0 (SLOTS_PER_BLOCK * span_of new) k 0 less ∙ plus k))
          (slot_ok k (omega (arith, less, wide))));
      once = subst (λ es. map.len (map.from_entries {R = slice_cmp nat_cmp} es) ≡ length es) (sym named)
          (gains (widened lies s) name s number free_there 0 end (omega arith) (omega arith) once absent).0;
    }
      where
        plus : (k : ℕ) → 0 + k ≡ k
        plus k = omega arith

    -- ---- its inode

    pub new_sound : SoundInode g new
    unfolding is_sound_inode numbers_of
    new_sound = record {
      fits = record {
        mode = sound.fits.mode;
        uid = sound.fits.uid;
        gid = sound.fits.gid;
        nlink = sound.fits.nlink;
        size = let size = size_is in let few = fewer in omega (arith, size, few);
        atime = sound.fits.atime;
        mtime = sound.fits.mtime;
        ctime = sound.fits.ctime;
        boot = sound.fits.boot;
        transaction = sound.fits.transaction;
        parent = sound.fits.parent;
        verifier = sound.fits.verifier;
        count = fills.count;
        direct = fills.fit;
        indirect = fills.indirect_fits;
        double = fills.double_fits;
      };
      good = subst (λ kind. is_sound_kind g kind new ≡ true) (sym grows.is.kind)
          (λ i. tests.0 i && (fills.placed i && lie.0 i && lie.1 i && fills.has_double i)
          && (nine.0 i && small i && whole i && nine.3 i && nine.4 i && direct_first i && indirect_first i && nine.7 i
          && nine.8 i));
    }
      where
        nine : (nat_le 2 inode.nlink ≡ true) × (nat_le inode.size LARGEST_DIRECTORY ≡ true)
            × (nat_eq (inode.size % BLOCK_BYTES) 0 ≡ true) × (nat_lt 0 inode.parent ≡ true)
            × (nat_lt inode.parent g.inodes ≡ true)
            × (names_first (min (inode.size / BLOCK_BYTES) DIRECT_INDEXES) inode.direct ≡ true)
            × (cond (nat_lt DIRECT_INDEXES (inode.size / BLOCK_BYTES)) (not (nat_eq inode.indirect 0))
            (nat_eq inode.indirect 0) ≡ true) × (nat_eq inode.double 0 ≡ true)
            × (is_none inode.verifier ≡ true)
        nine = all_nine (nat_le 2 inode.nlink) (nat_le inode.size LARGEST_DIRECTORY)
            (nat_eq (inode.size % BLOCK_BYTES) 0) (nat_lt 0 inode.parent) (nat_lt inode.parent g.inodes)
            (names_first (min (inode.size / BLOCK_BYTES) DIRECT_INDEXES) inode.direct)
            (cond (nat_lt DIRECT_INDEXES (inode.size / BLOCK_BYTES)) (not (nat_eq inode.indirect 0))
            (nat_eq inode.indirect 0)) (nat_eq inode.double 0) (is_none inode.verifier) tests.2

        lie : (is_data_block_or_none g indirect_block ≡ true) × (is_data_block_or_none g inode.double ≡ true)
            × (list_all (is_data_block_or_none g) (numbers_in after inode.double) ≡ true)
        lie = pointers_pass after new (is_data_block_or_none g) fills.pointers_placed

        small : nat_le (grown_size inode.size offset block) LARGEST_DIRECTORY ≡ true
        small = let size = size_is in let few = fewer in
            le-leb (grown_size inode.size offset block) LARGEST_DIRECTORY (omega (arith, size, few))

        whole : nat_eq (grown_size inode.size offset block % BLOCK_BYTES) 0 ≡ true
        whole = let size = size_is in
            eq-eqb (grown_size inode.size offset block % BLOCK_BYTES) 0 (omega (arith, size))

        direct_first : names_first (min (span_of new) DIRECT_INDEXES) direct ≡ true
        direct_first = ap (λ m. names_first (min (span_of new) m) direct) (sym fills.count)
            ∙ names_direct direct (numbers_in after indirect_block ++ doubled_in after inode.double) (span_of new)
            (subst (λ l. names_first (span_of new) l ≡ true)
            (append_assoc direct (numbers_in after indirect_block) (doubled_in after inode.double)) spans_now)

        indirect_first : cond (nat_lt DIRECT_INDEXES (span_of new)) (not (nat_eq indirect_block 0)) (nat_eq indirect_block 0) ≡ true
        indirect_first = ap (λ k. cond (nat_lt DIRECT_INDEXES k) (not (nat_eq indirect_block 0)) (nat_eq indirect_block 0)) new_span ∙ indirect_is

    -- ---- the tree

    abbrev new_body : Body
    new_body = with_dirent name dirent node.body

    body_by : (kind : InodeKind) → kind ≡ kinds.Directory → body_of g.inodes after kind new ≡ new_body
    body_by kinds.Directory e =
        (λ i. nodes.Directory (entries_now i) (new_span i) inode.parent)
        ∙ ap (λ k. nodes.Directory (insert held name dirent) k inode.parent) (wide span)
        ∙ ap (with_dirent name dirent) (sym was_body)
      where
        wide : (k : ℕ) → k + 1 ≡ max k (suc (SLOTS_PER_BLOCK * k / SLOTS_PER_BLOCK))
        wide k = omega arith
    body_by kinds.Regular e = cc
    body_by kinds.Link e = cc

    of_kind : (kind : InodeKind) → kind ≡ kinds.Directory → IsOfKind g after kind new
    of_kind kinds.Directory e = rules
    of_kind kinds.Regular e = cc
    of_kind kinds.Link e = cc

    counted : (q : ℕ) → times q (owned_by after (Ok (Some new)))
        ≡ times q gained + times q (owned_by content (Ok (Some inode)))
    counted q = ap (λ l. times q (filter is_some (pointer_blocks after new ++ l))) fills.now ∙ fills.counted q

    node_now : node_with new (body_of g.inodes after inode.kind new) ≡ record node { body = new_body }
    node_now =
        ap (node_with inode) (body_by inode.kind grows.is.kind)
        ∙ ap (λ (k : Node). record k { body = new_body }) (node_there snap base tree n inode node grows.is.has grows.was)

    pub grown_parts : PartsHold g (grown g base n new after gained)
        (with_node tree n (record node { body = new_body }))
    grown_parts = subst (λ (k : Node). PartsHold g (grown g base n new after gained) (with_node tree n k)) node_now
        (grown_holds g base tree n inode new gained after has.holds has.less has.read fills.were_free fills.once
        fills.outside counted (of_kind inode.kind grows.is.kind))
