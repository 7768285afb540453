-- What is known of a name stays true however much more is read, and as more blocks are looked through.
use Rattle.std.proofs.Common.{◌≡◌, ℕ, ◌+◌, ◌*◌, ◌<◌, ◌≤◌, ap, sym, ◌∙◌, subst, inl, inr, List, length, Option, None}
use Rattle.std.proofs.Common.{Some, Result, Ok, Err, arith}
use Rattle.std.proofs.lemmas.Bool.{cases_lt}
use Rattle.base.specs.declared.TheConstants.{BLOCK_BYTES, SLOTS_PER_BLOCK}
use Rattle.disk.specs.Crash.{Image}
use Rattle.layout.specs.declared.fault.LayoutFault.{LayoutFault}
use Rattle.layout.specs.declared.geometry.Geometry.{Geometry}
use Rattle.layout.specs.declared.inode.Inode.{Inode}
use Rattle.layout.specs.Decode.{inode_at, span_of}
use Rattle.layout.specs.Holds.{Holds}
use Rattle.layout.specs.Parts.{content_in}
use Rattle.nfs_spec.specs.Model.Tree.{Tree}
use Rattle.inode.specs.declared.snap.Snap.{Snap}
use Rattle.inode.specs.Over.{HasInode}
use Rattle.inode.specs.Read.{Saw}
use Rattle.procs_files.specs.declared.dirent.SlotDirent.{SlotDirent}
use Rattle.dir.specs.declared.cursor.SearchCursor.{SearchCursor}
use Rattle.dir.specs.Slots.{HasBlockAt, IsDirectoryOf, IsFound, Lying, NoneHas, NoneRefused, block_slot, slot_at}
use Rattle.dir.specs.SearchCursor.{IsValidAt, IsValidBehind, IsSearchCursor}
use Rattle.dir.specs.SearchCursor.IsValidBehind.{more, same as preserved_same}
use Rattle.dir.proofs.FoundIn.{found_within, none_more}

module _ (snap later : Snap) (same : later.geometry ≡ snap.geometry)
    (saw : (blocks : Image) → Saw blocks later → Saw blocks snap) where
  has : (blocks : Image) (tree : Tree) (number : ℕ) (inode : Inode) → HasInode later blocks tree number inode
      → HasInode snap blocks tree number inode
  has blocks tree number inode is = record {
    over = record {
      holds = subst (λ (g : Geometry). Holds g blocks tree) same is.over.holds;
      saw = saw blocks is.over.saw;
    };
    less = subst (λ (g : Geometry). number < g.inodes) same is.less;
    there = subst (λ (g : Geometry). inode_at g blocks number ≡ Ok (Some inode)) same is.there;
  }

  before : (blocks : Image) (tree : Tree) (number : ℕ) (inode : Inode)
      → IsDirectoryOf later blocks tree number inode → IsDirectoryOf snap blocks tree number inode
  before blocks tree number inode is = record { has = has blocks tree number inode is.has; kind = is.kind }

  pub grown : (cursor : SearchCursor) → IsSearchCursor snap cursor → IsSearchCursor later cursor
  grown cursor is = record {
    within = λ blocks inode seen there.
        is.within blocks inode (saw blocks seen)
        (subst (λ (g : Geometry). inode_at g blocks cursor.directory ≡ Ok (Some inode)) same there);
    none = λ blocks tree inode directory none.
        subst (λ (g : Geometry). NoneHas (slot_at g.inodes (content_in g blocks) inode) cursor.name 0
        (SLOTS_PER_BLOCK * cursor.blocks)) (sym same)
        (is.none blocks tree inode (before blocks tree cursor.directory inode directory) none);
    some = λ blocks tree inode search_hit directory some.
        subst (λ (g : Geometry). IsFound (slot_at g.inodes (content_in g blocks) inode) cursor.name 0
        (SLOTS_PER_BLOCK * cursor.blocks) (Some search_hit)) (sym same)
        (is.some blocks tree inode search_hit (before blocks tree cursor.directory inode directory) some);
    few = is.few;
    valid_blocks = λ blocks inode index seen there less number at long.
        subst (λ (g : Geometry). NoneRefused (block_slot g.inodes (SLOTS_PER_BLOCK * index) (blocks number))
        (SLOTS_PER_BLOCK * index) (SLOTS_PER_BLOCK * index + SLOTS_PER_BLOCK)) (sym same)
        (is.valid_blocks blocks inode index (saw blocks seen)
        (subst (λ (g : Geometry). inode_at g blocks cursor.directory ≡ Ok (Some inode)) same there) less number at long);
  }

-- ---- one block more

abbrev Read : Type 0
Read = Result (Option Inode) LayoutFault

one_inode : (fallback a b : Inode) → ◌≡◌ {A = Read} (Ok (Some a)) (Ok (Some b)) → a ≡ b
one_inode fallback a b e = ap (λ (r : Read). elim r [
  | Ok found ↦ elim found [ None ↦ fallback | Some one ↦ one ]
  | Err fault ↦ fallback
]) e

module _ (lies : Lying) (name : List ℕ) (before : ℕ) where
  more_none : (found : Option SlotDirent) → found ≡ None → NoneHas lies name 0 (SLOTS_PER_BLOCK * before)
      → IsFound lies name (SLOTS_PER_BLOCK * before) (SLOTS_PER_BLOCK * before + SLOTS_PER_BLOCK) found
      → NoneHas lies name 0 (SLOTS_PER_BLOCK * (before + 1))
  more_none found none first is = λ slot number low less.
      none_more lies name (SLOTS_PER_BLOCK * before) (SLOTS_PER_BLOCK * before + SLOTS_PER_BLOCK) first
      (subst (IsFound lies name (SLOTS_PER_BLOCK * before) (SLOTS_PER_BLOCK * before + SLOTS_PER_BLOCK)) none is)
      slot number low (omega (arith, less))

  more_some : (found : Option SlotDirent) (search_hit : SlotDirent) → found ≡ Some search_hit
      → IsFound lies name (SLOTS_PER_BLOCK * before) (SLOTS_PER_BLOCK * before + SLOTS_PER_BLOCK) found
      → IsFound lies name 0 (SLOTS_PER_BLOCK * (before + 1)) (Some search_hit)
  more_some found search_hit some is =
      found_within lies name (SLOTS_PER_BLOCK * before) (SLOTS_PER_BLOCK * before + SLOTS_PER_BLOCK)
      (SLOTS_PER_BLOCK * (before + 1)) search_hit (omega arith)
      (subst (IsFound lies name (SLOTS_PER_BLOCK * before) (SLOTS_PER_BLOCK * before + SLOTS_PER_BLOCK)) some is)

module _ (snap : Snap) (old new : SearchCursor) (inode : Inode) (directory : new.directory ≡ old.directory)
    (name : new.name ≡ old.name) (next : new.blocks ≡ old.blocks + 1) (none : old.found ≡ None)
    (less : old.blocks < span_of inode)
    (there : (blocks : Image) → Saw blocks snap → inode_at snap.geometry blocks old.directory ≡ Ok (Some inode))
    (ok : (blocks : Image) (tree : Tree) (file : ℕ) → IsDirectoryOf snap blocks tree file inode
    → old.blocks < span_of inode
    → IsFound (slot_at snap.geometry.inodes (content_in snap.geometry blocks) inode) old.name
    (SLOTS_PER_BLOCK * old.blocks) (SLOTS_PER_BLOCK * old.blocks + SLOTS_PER_BLOCK) new.found)
    (first : ℕ) (bytes : List ℕ) (at_first : first ≡ SLOTS_PER_BLOCK * old.blocks)
    (read : (blocks : Image) (number : ℕ) → Saw blocks snap → HasBlockAt blocks inode old.blocks number
    → length (blocks number) ≡ BLOCK_BYTES → bytes ≡ blocks number)
    (behind : IsValidBehind snap.geometry.inodes first bytes old new.valid_blocks) where
  is_it : (blocks : Image) (one : Inode) → Saw blocks snap
      → inode_at snap.geometry blocks new.directory ≡ Ok (Some one) → inode ≡ one
  is_it blocks one seen at =
      one_inode inode inode one (sym (there blocks seen)
      ∙ subst (λ (number : ℕ). inode_at snap.geometry blocks number ≡ Ok (Some one)) directory at)

  abbrev of_it : (blocks : Image) (tree : Tree) (one : Inode) → IsDirectoryOf snap blocks tree new.directory one
      → IsDirectoryOf snap blocks tree old.directory inode
  of_it blocks tree one is =
      subst (λ (number : ℕ). IsDirectoryOf snap blocks tree number inode) directory
      (subst (λ (i : Inode). IsDirectoryOf snap blocks tree new.directory i)
      (sym (is_it blocks one is.has.over.saw is.has.there)) is)

  few_valid : old.valid_blocks ≤ old.blocks → IsValidBehind snap.geometry.inodes first bytes old new.valid_blocks
      → new.valid_blocks ≤ new.blocks
  few_valid few (preserved_same is_preserved) = omega (arith, is_preserved, few, next)
  few_valid few (more all one none) = omega (arith, one, next)

  -- the block that was looked through is clear, where it is counted so
  valid_here : NoneRefused (block_slot snap.geometry.inodes first bytes) first (first + SLOTS_PER_BLOCK)
      → (blocks : Image) → Saw blocks snap → IsValidAt snap blocks inode old.blocks
  valid_here none blocks seen number at long =
      subst (λ (from : ℕ). NoneRefused (block_slot snap.geometry.inodes from (blocks number)) from
      (from + SLOTS_PER_BLOCK)) at_first
      (subst (λ (b : List ℕ). NoneRefused (block_slot snap.geometry.inodes first b) first (first + SLOTS_PER_BLOCK))
      (read blocks number seen at long) none)

  valid_so_far : IsValidBehind snap.geometry.inodes first bytes old new.valid_blocks → (blocks : Image) → Saw blocks snap
      → ((index : ℕ) → index < old.valid_blocks → IsValidAt snap blocks inode index)
      → (index : ℕ) → index < new.valid_blocks → IsValidAt snap blocks inode index
  valid_so_far (preserved_same is_preserved) blocks seen before index less = before index (omega (arith, less, is_preserved))
  valid_so_far (more all one none) blocks seen before index less = elim (cases_lt index old.blocks) [
    | inl early ↦ before index (omega (arith, early, all))
    | inr late ↦
        let last : old.blocks ≡ index = omega (arith, late, less, one) in
        subst (IsValidAt snap blocks inode) last (valid_here none blocks seen)
  ]

  pub scanned : IsSearchCursor snap old → IsSearchCursor snap new
  scanned was = record {
    within = λ blocks one seen at.
        let same : span_of inode ≡ span_of one = ap span_of (is_it blocks one seen at) in
        omega (arith, same, less, next);
    none = λ blocks tree one is found.
        let lies : Inode → Lying = slot_at snap.geometry.inodes (content_in snap.geometry blocks) in
        let it = of_it blocks tree one is in
        subst (λ (n : ℕ). NoneHas (lies one) new.name 0 (SLOTS_PER_BLOCK * n)) (sym next)
        (subst (λ (wanted : List ℕ). NoneHas (lies one) wanted 0 (SLOTS_PER_BLOCK * (old.blocks + 1))) (sym name)
        (subst (λ (i : Inode). NoneHas (lies i) old.name 0 (SLOTS_PER_BLOCK * (old.blocks + 1)))
        (is_it blocks one is.has.over.saw is.has.there)
        (more_none (lies inode) old.name old.blocks new.found found (was.none blocks tree inode it none)
        (ok blocks tree old.directory it less))));
    some = λ blocks tree one search_hit is found.
        let lies : Inode → Lying = slot_at snap.geometry.inodes (content_in snap.geometry blocks) in
        let it = of_it blocks tree one is in
        subst (λ (n : ℕ). IsFound (lies one) new.name 0 (SLOTS_PER_BLOCK * n) (Some search_hit)) (sym next)
        (subst (λ (wanted : List ℕ). IsFound (lies one) wanted 0 (SLOTS_PER_BLOCK * (old.blocks + 1)) (Some search_hit))
        (sym name)
        (subst (λ (i : Inode). IsFound (lies i) old.name 0 (SLOTS_PER_BLOCK * (old.blocks + 1)) (Some search_hit))
        (is_it blocks one is.has.over.saw is.has.there)
        (more_some (lies inode) old.name old.blocks new.found search_hit found (ok blocks tree old.directory it less))));
    few = few_valid was.few behind;
    valid_blocks = λ blocks one index seen at below.
        subst (λ (i : Inode). IsValidAt snap blocks i index) (is_it blocks one seen at)
        (valid_so_far behind blocks seen (λ k early. was.valid_blocks blocks inode k seen (there blocks seen) early) index
        below);
  }

-- ---- what is known in the end

module _ (snap : Snap) (cursor : SearchCursor) (is : IsSearchCursor snap cursor) (blocks : Image) (tree : Tree) (inode : Inode)
    (directory : IsDirectoryOf snap blocks tree cursor.directory inode) where
  abbrev lying : Lying
  lying = slot_at snap.geometry.inodes (content_in snap.geometry blocks) inode

  pub known_some : (search_hit : SlotDirent) → cursor.found ≡ Some search_hit
      → IsFound lying cursor.name 0 (SLOTS_PER_BLOCK * span_of inode) (Some search_hit)
  known_some search_hit found =
      let within = is.within blocks inode directory.has.over.saw directory.has.there in
      found_within lying cursor.name 0 (SLOTS_PER_BLOCK * cursor.blocks) (SLOTS_PER_BLOCK * span_of inode) search_hit
      (omega (arith, within)) (is.some blocks tree inode search_hit directory found)

  pub known_none : cursor.found ≡ None → span_of inode ≤ cursor.blocks
      → IsFound lying cursor.name 0 (SLOTS_PER_BLOCK * span_of inode) None
  known_none found all = λ slot number low less.
      is.none blocks tree inode directory found slot number low (omega (arith, less, all))
