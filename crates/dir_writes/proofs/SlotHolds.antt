-- Blocks in which a slot of a directory got other bytes hold the tree with the directory that it is then.
use Rattle.std.proofs.Common.{◌≡◌, ℕ, zero, suc, ◌+◌, ◌*◌, ◌/◌, ◌%◌, ◌<◌, ◌≤◌, inl, inr, sym, ap, ◌∙◌, refl}
use Rattle.std.proofs.Common.{subst, true}
use Rattle.std.proofs.Common.{false, cond, not, List, [], ◌∷◌, ◌++◌, length, take, drop, filter, nat_eq}
use Rattle.std.proofs.Common.{replicate, Option, Some, None, Ok, Err, arith}
use Rattle.std.proofs.lemmas.Bool.{cases_lt, eq-eqb, le-ltb, lt-ltb}
use Rattle.std.specs.Cmp.Lexicographic.{slice_cmp}
use Rattle.std.specs.FinMap.{from_entries}
use Rattle.std.specs.List.{list_all}
use Rattle.std.specs.Ordering.{nat_cmp}
use Rattle.std.proofs.lemmas.List.{get_or-take, length-take-le}
use Rattle.std.proofs.lemmas.List.Elements.{filter-append}
use Rattle.std.proofs.lemmas.List.Sums.{sum_by-append}
use Rattle.base.specs.declared.TheConstants.{BLOCK_BYTES, SLOTS_PER_BLOCK}
use Rattle.disk.specs.Crash.{Image}
use Rattle.nfs_types.specs.Fits.{AreBytes}
use Rattle.objects.specs.Spliced.{spliced}
use Rattle.objects.proofs.Splices.{spliced-length}
use Rattle.layout.proofs.FreshBytes.{IsBytes}
use Rattle.layout.proofs.WrittenBytes.{spliced-bytes}
use Rattle.inode.proofs.WriteSetsLemmas.OtherWrites.{data_written}
use Rattle.nfs_spec.specs.Model.Node.{Body, Entries, Node}
use Rattle.nfs_spec.specs.Model.Node as nodes
use Rattle.nfs_spec.specs.Model.Tree.{Tree, node_at, with_node}
use Rattle.layout.specs.declared.fault.LayoutFault.TheVariants.{Range}
use Rattle.layout.specs.declared.geometry.Geometry.{Geometry}
use Rattle.layout.specs.declared.inode.Inode.{Inode}
use Rattle.layout.specs.declared.inode.InodeKind.{InodeKind}
use Rattle.layout.specs.declared.inode.InodeKind.TheVariants as kinds
use Rattle.layout.specs.declared.slot.Slot.{Slot}
use Rattle.layout.specs.declared.slot.TheConstants.{SLOT_BYTES}
use Rattle.layout.specs.Decode.{IsDirectory, IsFile, IsOfKind, body_of, file_of, inode_at}
use Rattle.layout.specs.Decode.{entries_in, node_with, numbers_of, pointer_blocks, span_of}
use Rattle.layout.specs.Holds.{Holds, PartsHold}
use Rattle.layout.specs.Owners.{IsMarked, owned, owned_by}
use Rattle.layout.specs.Parts.{Parts, content_in, parts_of, put, with_bytes}
use Rattle.layout.specs.Places.{is_data}
use Rattle.layout.specs.SlotForm.{read_slot}
use Rattle.layout.proofs.AllNumbers.{all-length}
use Rattle.layout.proofs.Frame.{ChangesOne, changed_owners, same_marks, same_owners}
use Rattle.layout.proofs.OnGrid.{data_within}
use Rattle.layout.proofs.Written.{not_same}
use Rattle.inode.specs.declared.snap.Snap.{Snap}
use Rattle.inode.proofs.AllTests.{all_two}
use Rattle.inode.proofs.Pieces as pieces
use Rattle.bitmap.proofs.Held.{are_data}
use Rattle.dir.specs.Slots.{IsDirectoryOf, Lying, slot_at}
use Rattle.dir.proofs.FoundIn.{entries}
use Rattle.dir.proofs.SlotBlocks.{of_directory, small}
use Rattle.inode.proofs.WriteSetsLemmas.Marks.{times}
use Rattle.inode.proofs.WriteSetsLemmas.OneFile.{blocks_still, numbered, one_file}
use Rattle.dir_writes.specs.Clearing.{HasOnce, slot_block}
use Rattle.dir_writes.specs.SlotWrites.{slotted, slotted_block}
use Rattle.dir_writes.proofs.Lost.{IsOnce}
use Rattle.dir_writes.proofs.SlotNames as slots
use Rattle.dir_writes.proofs.SlotNames.{relaid, some_at}
use Rattle.dir_writes.proofs.OneIndex.{elsewhere, held_by, nothing_else, once_there}
use Rattle.dir_writes.proofs.OneIndex.{one_index, own_part}

take_none : (xs : List ℕ) → take 0 xs ≡ []
take_none [] = refl
take_none (x ∷ xs) = refl

drop_all : (n : ℕ) (xs : List ℕ) → length xs ≡ n → drop n xs ≡ []
drop_all zero [] e = refl
drop_all zero (x ∷ xs) e = absurd (omega (arith, e))
drop_all (suc n) [] e = absurd (omega (arith, e))
drop_all (suc n) (x ∷ xs) e = drop_all n xs (omega (arith, e))

append_none : (xs : List ℕ) → xs ++ [] ≡ xs
append_none [] = refl
append_none (x ∷ xs) = ap (λ l. x ∷ l) (append_none xs)

-- bytes in the place of as many
pub whole_spliced : (content bytes : List ℕ) → length content ≡ length bytes → spliced content 0 bytes ≡ bytes
whole_spliced content bytes same =
    (λ i. take_none content i ++ bytes ++ drop_all (0 + length bytes) content (same ∙ plus (length bytes)) i)
    ∙ append_none bytes
  where
    plus : (n : ℕ) → n ≡ 0 + n
    plus n = omega arith

abbrev some_of : List ℕ → List ℕ
some_of numbers = filter (λ number. not (nat_eq number 0)) numbers

same_node : {x y : Node} → ◌≡◌ {A = Option Node} (Some x) (Some y) → x ≡ y
same_node e = cc

module _ (snap : Snap) (old : Image) (tree : Tree) (n : ℕ) (inode : Inode) (s : ℕ) (bytes : List ℕ)
    (read : Option Slot) (count : length bytes ≡ SLOT_BYTES) (are : AreBytes bytes)
    (reads : read_slot snap.geometry.inodes bytes ≡ Ok read) (is : IsDirectoryOf snap old tree n inode)
    (less : s < SLOTS_PER_BLOCK * span_of inode) where
  abbrev g : Geometry
  g = snap.geometry

  abbrev was : Parts
  was = parts_of g old

  abbrev content : Image
  content = content_in g old

  abbrev numbers : List ℕ
  numbers = numbers_of content inode

  abbrev b : ℕ
  b = slot_block content inode s

  abbrev after : Image
  after = slotted content inode s bytes

  abbrev new : Parts
  new = record was { content = after }

  holds : Holds g old tree
  holds = is.has.over.holds

  long : (block : ℕ) → length (content block) ≡ BLOCK_BYTES
  long = pieces.long_content snap old tree n inode is.has

  dir : IsDirectory g content inode
  dir = of_directory snap old tree n inode is

  spans : span_of inode ≤ length numbers
  spans =
      let all = all-length content inode (pieces.direct snap old tree n inode is.has) in
      let few = small snap old tree n inode is in omega (arith, all, few)

  table_is : was.table n ≡ Ok (Some inode)
  table_is = ap (λ t. cond t (inode_at g old n) (Err Range)) (lt-ltb n g.inodes is.has.less) ∙ is.has.there

  -- ---- the block

  index : s / SLOTS_PER_BLOCK < length numbers
  index = let all = spans in omega (arith, less, all)

  abbrev pointers : List ℕ
  pointers = pointer_blocks content inode

  few : times b (some_of (pointers ++ numbers)) ≤ 1
  few =
      let own = subst (λ r. times b (owned_by content r) ≤ times b (owned g was)) table_is
      (own_part g was n b is.has.less) in
      let all = holds.parts.marked.once b in omega (arith, own, all)

  -- of its blocks some are pointer blocks, and the others are those of its numbers
  apart : times b (some_of (pointers ++ numbers)) ≡ times b (some_of pointers) + times b (some_of numbers)
  apart =
      ap (times b) (filter-append (λ k. not (nat_eq k 0)) pointers numbers)
      ∙ sum_by-append (λ one. cond (nat_eq one b) 1 0) (some_of pointers) (some_of numbers)

  some_b : nat_eq b 0 ≡ false
  some_b =
      let fits = spans in
      let count = length-take-le (span_of inode) numbers fits in
      let low : s / SLOTS_PER_BLOCK < span_of inode = omega (arith, less) in
      ap (λ k. nat_eq k 0) (sym (get_or-take (span_of inode) numbers (s / SLOTS_PER_BLOCK) 0 low))
      ∙ some_at (take (span_of inode) numbers) (s / SLOTS_PER_BLOCK) (omega (arith, count, low))
      (all_two (list_all (λ k. not (nat_eq k 0)) (take (span_of inode) numbers))
      (list_all (λ k. nat_eq k 0) (drop (span_of inode) numbers)) dir.spans).0

  there : 1 ≤ times b (some_of numbers)
  there = once_there b numbers (s / SLOTS_PER_BLOCK) some_b index refl

  owned_there : 1 ≤ times b (owned_by content (was.table n))
  owned_there =
      let one = there in let more = apart in
      subst (λ r. 1 ≤ times b (owned_by content r)) (sym table_is) (as_own (omega (arith, one, more)))
    where
      as_own : 1 ≤ times b (some_of (pointers ++ numbers))
          → 1 ≤ times b (owned_by content (Ok (Some inode)))
      as_own e = e

  once : HasOnce content inode b
  once = record {
    index = λ i j low high e f.
        one_index b numbers i j some_b
        (let most = few in let more = apart in omega (arith, most, more)) low high e f;
    pointer = λ i low e.
        let most = few in
        let more = apart in
        let here = once_there b pointers i some_b low e in
        let one = there in
        omega (arith, most, more, here, one);
  }

  data_b : is_data g b ≡ true
  data_b = held_by (λ k. is_data g k ≡ true) (owned_by content (was.table n)) b
      (are_data g old tree holds n is.has.less (was.table n) refl) owned_there

  -- ---- the blocks of others

  abbrev rest : Parts
  rest = record was { table = put was.table n (Ok None) }

  without_n : ChangesOne was rest n
  without_n = record {
    table = λ m not. ap (λ t. cond t (Ok None) (was.table m)) (not_same m n not);
    content = λ m not. nothing_else content (owned_by content (was.table m));
  }

  rest_none : times b (owned g rest) ≡ 0
  rest_none =
      let sums = changed_owners g was rest n without_n (λ one. nat_eq one b) is.has.less in
      let gone = ap (λ r. times b (owned_by content r)) (ap (λ t. cond t (Ok None) (was.table n)) (eq-eqb n n refl)) in
      let one = owned_there in
      let all = holds.parts.marked.once b in
      omega (arith, sums, gone, one, all)

  none_of : (m : ℕ) → (m ≡ n → ⊥) → times b (owned_by content (was.table m)) ≡ 0
  none_of m not = elim (cases_lt m g.inodes) [
    | inl low ↦
        let own = subst (λ r. times b (owned_by content r) ≤ times b (owned g rest))
        (without_n.table m not) (own_part g rest m b low) in
        let none = rest_none in omega (arith, own, none)
    | inr past ↦ ap (λ t. times b (owned_by content (cond t (inode_at g old m) (Err Range))))
        (le-ltb m g.inodes past)
  ]

  one : ChangesOne was new n
  one = record {
    table = λ m not. refl;
    content = λ m not. elsewhere content b
        (slotted_block content inode s bytes)
        (owned_by content (was.table m)) (none_of m not);
  }

  -- ---- its slots

  abbrev lies : Lying
  lies = slot_at g.inodes content inode

  abbrev end : ℕ
  end = SLOTS_PER_BLOCK * span_of inode

  pub was_once : IsOnce (entries lies 0 end)
  was_once = slots.was_once g content inode s bytes read count reads long spans dir less once

  pub was_made : entries_in g.inodes content inode ≡ from_entries {R = slice_cmp nat_cmp} (entries lies 0 end)
  was_made = slots.was_made g content inode s bytes read count reads long spans dir less once

  pub was_read : IsDirectory g content inode
  was_read = dir

  owners : owned g new ≡ owned g was
  owners = same_owners g was new n one
      (ap (owned_by after) table_is
      ∙ (λ i. some_of (slots.same_pointers g content inode s bytes read count reads long spans dir less once i
      ++ slots.same_numbers g content inode s bytes read count reads long spans dir less once i))
      ∙ sym (ap (owned_by content) table_is))

  marked : IsMarked g new
  marked = same_marks g was new owners (λ m. refl) refl refl holds.parts.marked

  -- ---- the blocks

  abbrev block : List ℕ
  block = slotted_block content inode s bytes

  as_data : content b ≡ old b
  as_data = ap (λ t. cond t (old b) (replicate BLOCK_BYTES 0)) data_b

  block_long : length block ≡ BLOCK_BYTES
  block_long =
      spliced-length (content b) bytes (SLOT_BYTES * (s % SLOTS_PER_BLOCK))
      (let all = long b in omega (arith, all, count)) ∙ long b

  whole : spliced (old b) 0 block ≡ block
  whole = whole_spliced (old b) block
      (let w = block_long in let l = long b in let same = ap (λ (x : List ℕ). length x) as_data in
      omega (arith, w, l, same))

  block_bytes : IsBytes block
  block_bytes = record {
    are = spliced-bytes (content b) bytes (SLOT_BYTES * (s % SLOTS_PER_BLOCK))
        (subst AreBytes (sym as_data) (holds.bytes b (data_within g b data_b).1).1) (record { are = are });
  }

  read_as : (image : Image) → (parts_of g image).table n ≡ inode_at g image n
  read_as image = ap (λ t. cond t (inode_at g image n) (Err Range)) (lt-ltb n g.inodes is.has.less)

  -- its inode is as it was
  pub slot_inode : (last : Image) → last ≡ with_bytes old b 0 block → inode_at g last n ≡ Ok (Some inode)
  slot_inode last written =
      sym (read_as last)
      ∙ ap (λ (parts : Parts). parts.table n) (ap (parts_of g) written
      ∙ data_written g old b 0 block g.lawful.1.2 (data_within g b data_b).0 data_b)
      ∙ table_is

  -- ---- the file of the tree

  pub slot_file : (node : Node) → node_at tree n ≡ Some node → (body : Body)
      → node_with inode body ≡ record node { body = body }
  slot_file node there_is body =
      ap (λ (k : Node). record k { body = body })
      (same_node (sym (holds.parts.has.files n ∙ ap (file_of g.inodes content) table_is) ∙ there_is))

  pub was_file : (node : Node) → node_at tree n ≡ Some node
      → node.body ≡ body_of g.inodes content inode.kind inode
  was_file node there_is =
      ap (λ (k : Node). k.body)
      (sym (same_node (sym (holds.parts.has.files n ∙ ap (file_of g.inodes content) table_is) ∙ there_is)))

  module _ (made : Entries) (then_once : IsOnce (entries (relaid lies s read) 0 end))
      (then_made : from_entries {R = slice_cmp nat_cmp} (entries (relaid lies s read) 0 end) ≡ made) where
    -- ---- the file

    abbrev new_body : Body
    new_body = nodes.Directory made (span_of inode) inode.parent

    same_kind : (kind : InodeKind) → kind ≡ kinds.Directory → body_of g.inodes after kind inode ≡ new_body
    same_kind kinds.Directory e =
        ap (λ (es : Entries). nodes.Directory es (span_of inode) inode.parent)
        (slots.made_of g content inode s bytes read count reads long spans dir less once ∙ then_made)
    same_kind kinds.Regular e = cc
    same_kind kinds.Link e = cc

    of_kind : (kind : InodeKind) → kind ≡ kinds.Directory → IsOfKind g after kind inode
    of_kind kinds.Directory e = slots.rules g content inode s bytes read count reads long spans dir less once then_once
    of_kind kinds.Regular e = cc
    of_kind kinds.Link e = cc

    file : Some (node_with inode new_body) ≡ file_of g.inodes after (was.table n)
    file = ap (λ body. Some (node_with inode body)) (sym (same_kind inode.kind is.kind))
        ∙ sym (ap (file_of g.inodes after) table_is)

    parts_hold : PartsHold g new (with_node tree n (node_with inode new_body))
    parts_hold = one_file g was new n tree (node_with inode new_body) one holds.parts
        (numbered g was tree n (node_with inode (body_of g.inodes content inode.kind inode)) holds.parts
        (holds.parts.has.files n ∙ ap (file_of g.inodes content) table_is))
        (subst (IsFile g after) (sym table_is) (of_kind inode.kind is.kind)) file marked

    pub slot_holds : (last : Image) → last ≡ with_bytes old b 0 block
        → Holds g last (with_node tree n (node_with inode new_body))
    slot_holds last written = subst (λ image. Holds g image (with_node tree n (node_with inode new_body))) (sym written)
        (record {
          bytes = blocks_still old b 0 block g.blocks holds.bytes block_bytes
              (let w = block_long in omega (arith, w));
          parts = subst (λ parts. PartsHold g parts (with_node tree n (node_with inode new_body)))
              (sym (data_written g old b 0 block g.lawful.1.2 (data_within g b data_b).0 data_b
              ∙ (λ i. record was { content = put content b (whole i) }))) parts_hold;
        })
