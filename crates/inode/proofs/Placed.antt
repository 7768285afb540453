-- Where the blocks of a file that was read lie.
use Rattle.std.proofs.Common.{◌≡◌, ℕ, zero, suc, ◌-◌, ◌/◌, ◌%◌, ◌<◌, ◌≤◌, sym, ap, ◌∙◌, refl, Bool, true, false, cond}
use Rattle.std.proofs.Common.{List, [], ◌∷◌, ◌++◌, length, get_or, replicate, nat_eq, nat_le, nat_lt, arith}
use Rattle.std.specs.List.{list_all}
use Rattle.base.specs.declared.TheConstants.{BLOCK_BYTES, DIRECT_INDEXES, FILE_INDEXES, FIRST_DOUBLE_INDEX}
use Rattle.base.specs.declared.TheConstants.{INDIRECT_INDEXES}
use Rattle.disk.specs.Crash.{Image}
use Rattle.objects.specs.declared.addr.Addr.{Addr}
use Rattle.nfs_spec.specs.Model.Tree.{Tree}
use Rattle.layout.specs.declared.geometry.Geometry.{Geometry}
use Rattle.layout.specs.declared.inode.Inode.{Inode}
use Rattle.layout.specs.Decode.{numbers_in, numbers_of}
use Rattle.layout.specs.Fields.{numbers_at}
use Rattle.layout.specs.Geometry.{data_at}
use Rattle.layout.specs.InodeForm.{is_data_block_or_none}
use Rattle.layout.specs.Parts.{content_in}
use Rattle.layout.specs.Places.{is_data}
use Rattle.layout.proofs.FileNumbers as numbers
use Rattle.layout.proofs.NumbersIn.{doubled_pass, none_at, none_pass, some_in}
use Rattle.txn_law.specs.Window.{object_at}
use Rattle.inode.specs.declared.snap.Snap.{Snap}
use Rattle.inode.specs.Over.{AreInnerPlaced, HasInode, IsOver, are_pointers_placed, pointer_number_at, number_at}
use Rattle.inode.proofs.AllTests.{all_two, is_less}
use Rattle.inode.proofs.IndirectThere.{doubled_passes, inner_pass, numbers_pass}
use Rattle.inode.proofs.InodeThere.{is_of_kind, is_sound, maps}
use Rattle.inode.proofs.ReadThere.{whole_there}

-- a data block that was read is the content of its number
pub content_there : (snap : Snap) (number : ℕ) (addr : Addr) (bytes : List ℕ) (blocks : Image) (tree : Tree)
    → is_data snap.geometry number ≡ true → addr.block.0 ≡ number → addr.offset ≡ 0 → addr.len ≡ BLOCK_BYTES
    → IsOver snap blocks tree → object_at blocks addr ≡ bytes
    → bytes ≡ content_in snap.geometry blocks number
content_there snap number addr bytes blocks tree placed block offset len over there =
    let both = all_two (nat_le (data_at snap.geometry.blocks snap.geometry.inodes) number)
    (nat_lt number snap.geometry.blocks) placed in
    whole_there blocks number addr bytes block offset len there
    (over.holds.bytes number (is_less number snap.geometry.blocks both.1)).0
    ∙ sym (ap (λ b. cond b (blocks number) (replicate BLOCK_BYTES 0)) placed)

-- ---- the numbers of a file

pub passes_at : (test : ℕ → Bool) (numbers : List ℕ) (index : ℕ) → test 0 ≡ true → list_all test numbers ≡ true
    → test (get_or numbers index 0) ≡ true
passes_at test [] index none all = none
passes_at test (n ∷ numbers) zero none all = (all_two (test n) (list_all test numbers) all).0
passes_at test (n ∷ numbers) (suc index) none all =
    passes_at test numbers index none (all_two (test n) (list_all test numbers) all).1

pub early : (xs ys : List ℕ) (index : ℕ) → index < length xs → get_or (xs ++ ys) index 0 ≡ get_or xs index 0
early [] ys index less = absurd (omega (arith, less))
early (x ∷ xs) ys zero less = refl
early (x ∷ xs) ys (suc index) less = early xs ys index (omega (arith, less))

pub behind : (xs ys : List ℕ) (index : ℕ) → length xs ≤ index
    → get_or (xs ++ ys) index 0 ≡ get_or ys (index - length xs) 0
behind [] ys index more = ap (λ k. get_or ys k 0) (omega arith)
behind (x ∷ xs) ys zero more = absurd (omega (arith, more))
behind (x ∷ xs) ys (suc index) more =
    behind xs ys index (omega (arith, more)) ∙ ap (λ k. get_or ys k 0) (omega arith)

module _ (g : Geometry) (blocks : Image) (inode : Inode) (index : ℕ) (direct : length inode.direct ≡ DIRECT_INDEXES)
  where
    abbrev content : Image
    content = content_in g blocks

    pub direct_at : index < DIRECT_INDEXES → get_or inode.direct index 0 ≡ number_at g blocks inode index
    direct_at less = sym (numbers.direct_at content inode direct index less)

    pub indirect_there : DIRECT_INDEXES ≤ index → index < FIRST_DOUBLE_INDEX
        → pointer_number_at content inode.indirect (index - DIRECT_INDEXES) ≡ number_at g blocks inode index
    indirect_there more within = sym (numbers.indirect_at content inode direct index more within)

    pub inner_there : FIRST_DOUBLE_INDEX ≤ index → index < FILE_INDEXES
        → pointer_number_at content (pointer_number_at content inode.double ((index - FIRST_DOUBLE_INDEX) / INDIRECT_INDEXES))
        ((index - FIRST_DOUBLE_INDEX) % INDIRECT_INDEXES) ≡ number_at g blocks inode index
    inner_there more within = sym (numbers.inner_at content inode direct index more within)

pub none_indirect : (content : Image) (indirect index : ℕ) → nat_eq indirect 0 ≡ true
    → 0 ≡ pointer_number_at content indirect index
none_indirect content indirect index none =
    sym (none_at content indirect none index)

pub some_indirect : (content : Image) (indirect index : ℕ) (bytes : List ℕ) → nat_eq indirect 0 ≡ false
    → bytes ≡ content indirect → get_or (numbers_at INDIRECT_INDEXES 0 bytes) index 0 ≡ pointer_number_at content indirect index
some_indirect content indirect index bytes some is =
    ap (λ block. get_or (numbers_at INDIRECT_INDEXES 0 block) index 0) is
    ∙ sym (ap (λ l. get_or l index 0) (some_in content indirect some))

-- each inner block is a data block, and so are those that it names
module _ (g : Geometry) (blocks : Image) (double : ℕ) (are : AreInnerPlaced g blocks double) where
  abbrev inner_at : ℕ → ℕ
  inner_at inner = pointer_number_at (content_in g blocks) double inner

  pub inner_data : (inner : ℕ) → is_data_block_or_none g (inner_at inner) ≡ true
  inner_data inner = passes_at (is_data_block_or_none g) (numbers_in (content_in g blocks) double) inner refl are.inner

  pub inner_part_placed : (inner : ℕ) → are_pointers_placed g blocks (inner_at inner)
  inner_part_placed inner some =
      ap (list_all (is_data_block_or_none g)) (sym (some_in (content_in g blocks) (inner_at inner) some))
      ∙ passes_at (λ one. list_all (is_data_block_or_none g) (numbers_in (content_in g blocks) one))
      (numbers_in (content_in g blocks) double) inner
      (none_pass (content_in g blocks) 0 refl (is_data_block_or_none g) refl)
      (sym (doubled_pass (content_in g blocks) double (is_data_block_or_none g)) ∙ are.named)

module _ (snap : Snap) (blocks : Image) (tree : Tree) (number : ℕ) (inode : Inode)
    (has : HasInode snap blocks tree number inode) where
  abbrev g : Geometry
  g = snap.geometry

  pub indirect_placed : is_data_block_or_none g inode.indirect ≡ true
  indirect_placed = (maps g blocks tree number inode has.over.holds has.less has.there).1

  pub double_placed : is_data_block_or_none g inode.double ≡ true
  double_placed = (maps g blocks tree number inode has.over.holds has.less has.there).2

  pub all_placed : list_all (is_data_block_or_none g) (numbers_of (content_in g blocks) inode) ≡ true
  all_placed =
      numbers_pass g (content_in g blocks) inode inode.kind
      (is_sound g blocks tree number inode has.over.holds has.less has.there)
      (is_of_kind g blocks tree number inode has.over.holds has.less has.there)

  pub placed_at : (index : ℕ) → is_data_block_or_none g (number_at g blocks inode index) ≡ true
  placed_at index = passes_at (is_data_block_or_none g) (numbers_of (content_in g blocks) inode) index refl all_placed

  -- its inner blocks are data blocks, and so are those that they name
  pub inner_placed : AreInnerPlaced g blocks inode.double
  inner_placed = record {
    inner = inner_pass g (content_in g blocks) inode inode.kind
        (is_sound g blocks tree number inode has.over.holds has.less has.there)
        (is_of_kind g blocks tree number inode has.over.holds has.less has.there);
    named = doubled_passes g (content_in g blocks) inode inode.kind
        (is_sound g blocks tree number inode has.over.holds has.less has.there)
        (is_of_kind g blocks tree number inode has.over.holds has.less has.there);
  }

  pub double_part_placed : are_pointers_placed g blocks inode.double
  double_part_placed some =
      ap (list_all (is_data_block_or_none g)) (sym (some_in (content_in g blocks) inode.double some))
      ∙ inner_placed.inner
