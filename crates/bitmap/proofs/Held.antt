-- An inode of blocks that hold the files of a tree has as many blocks as its file costs, and each is a data block.
use Rattle.std.proofs.Common.{◌≡◌, ℕ, ◌<◌, sym, ap, ◌∙◌, refl, Bool, true, false, cond, not, ◌||◌, ◌&&◌}
use Rattle.std.proofs.Common.{List, [], ◌∷◌, ◌++◌, length, filter, nat_eq, nat_lt, nat_le}
use Rattle.std.proofs.Common.{min, is_none, Option, Some, None, Result, Ok, Err, arith, ◌%◌, ◌/◌}
use Rattle.std.specs.List.{AllByRecursion, list_all}
use Rattle.std.proofs.lemmas.Bool.{lt-ltb}
use Rattle.std.proofs.lemmas.List.Folds.{list_all-append}
use Rattle.base.specs.declared.TheConstants.{BLOCK_BYTES, DIRECT_INDEXES, LARGEST_DIRECTORY}
use Rattle.base.specs.declared.TheConstants.{TARGET_BYTES}
use Rattle.disk.specs.Crash.{Image}
use Rattle.nfs_spec.specs.Model.Cost.{cost}
use Rattle.nfs_spec.specs.Model.Tree.{Tree, cost_at}
use Rattle.layout.specs.declared.fault.LayoutFault.{LayoutFault}
use Rattle.layout.specs.declared.fault.LayoutFault.TheVariants.{Range}
use Rattle.layout.specs.declared.geometry.Geometry.{Geometry}
use Rattle.layout.specs.declared.inode.Inode.{Inode}
use Rattle.layout.specs.declared.inode.InodeKind.{InodeKind}
use Rattle.layout.specs.declared.inode.InodeKind.TheVariants.{Regular, Directory, Link}
use Rattle.layout.specs.Decode.{IsOfKind, body_of, file_of, inode_at, numbers_of, pointer_blocks}
use Rattle.layout.specs.InodeForm.{is_data_block_or_none, is_sound_directory, is_sound_file, is_sound_kind}
use Rattle.layout.specs.InodeForm.{is_sound_link, is_sound_map, names_first}
use Rattle.layout.specs.Owners.{owned_by}
use Rattle.layout.specs.Parts.{content_in, table_of}
use Rattle.layout.specs.Places.{is_data}
use Rattle.layout.specs.Holds.{Holds}
use Rattle.layout.proofs.Mapped.{is_some}
use Rattle.layout.proofs.Used.{owned_length}
use Rattle.inode.proofs.AllTests.{all_five, all_seven, all_three, all_two, no_more}
use Rattle.inode.proofs.IndirectThere.{numbers_pass, pointer_blocks_pass}
use Rattle.inode.proofs.InodeThere.{is_of_kind, is_read, is_sound}
use Rattle.inode.proofs.UsedBlocks.{all_counted, counted, directory_counted, link_counted, regular_counted}

-- what a file of this inode costs
module _ (g : Geometry) (content : Image) (i : Inode) (direct : length i.direct ≡ DIRECT_INDEXES) where
  pub costs : (kind : InodeKind) → is_sound_kind g kind i ≡ true → IsOfKind g content kind i
      → cost (body_of g.inodes content kind i) ≡ counted content i
  costs Regular good file = regular_counted g content i direct file.mapped
  costs Directory good file =
      let three = all_three (is_sound_file i) (is_sound_map g i) (is_sound_directory g i) good in
      let rules = all_seven (nat_le 2 i.nlink) (nat_le i.size LARGEST_DIRECTORY)
      (nat_eq (i.size % BLOCK_BYTES) 0)
      (nat_lt 0 i.parent) (nat_lt i.parent g.inodes)
      (names_first (min (i.size / BLOCK_BYTES) DIRECT_INDEXES) i.direct)
      (cond (nat_lt DIRECT_INDEXES (i.size / BLOCK_BYTES)) (not (nat_eq i.indirect 0)) (nat_eq i.indirect 0))
      (all_two _ (nat_eq i.double 0) (all_two _ (is_none i.verifier) three.2).0).0 in
      directory_counted g content i direct file.spans (no_more i.size LARGEST_DIRECTORY rules.1) rules.6
      (all_two _ (nat_eq i.double 0) (all_two _ (is_none i.verifier) three.2).0).1
  costs Link good file =
      let three = all_three (is_sound_file i) (is_sound_map g i) (is_sound_link i) good in
      let rules = all_five (nat_le 1 i.size) (nat_le i.size TARGET_BYTES) (nat_eq i.parent 0)
      (names_first 1 i.direct) (nat_eq i.indirect 0)
      (all_two _ (nat_eq i.double 0) (all_two _ (is_none i.verifier) three.2).0).0 in
      link_counted g content i direct rules.3 rules.4
      (all_two _ (nat_eq i.double 0) (all_two _ (is_none i.verifier) three.2).0).1

  has_length : length (owned_by content (Ok (Some i))) ≡ counted content i
  has_length =
      let held = owned_length content i in
      let all = all_counted g content i direct in
      omega (arith, held, all)

-- what is no number of a file's, or a data block's, is a data block's where it is kept
module _ (g : Geometry) where
  abbrev AreData : List ℕ → Type 0
  AreData = AllByRecursion (λ n. is_data g n ≡ true)

  one_preserved : (none : Bool) (n : ℕ) (rest : List ℕ) → (none || is_data g n) ≡ true → AreData rest
      → AreData (cond (not none) (n ∷ rest) rest)
  one_preserved true n rest e are = are
  one_preserved false n rest e are = (e, are)

  is_preserved : (numbers : List ℕ) → list_all (is_data_block_or_none g) numbers ≡ true
      → AreData (filter is_some numbers)
  is_preserved [] e = tt
  is_preserved (n ∷ numbers) e =
      let both = all_two (is_data_block_or_none g n) (list_all (is_data_block_or_none g) numbers) e in
      one_preserved (nat_eq n 0) n (filter is_some numbers) both.0 (is_preserved numbers both.1)

module _ (g : Geometry) (blocks : Image) (tree : Tree) (holds : Holds g blocks tree) (n : ℕ)
    (less : n < g.inodes) where
  abbrev content : Image
  content = content_in g blocks

  read_as : (r : Result (Option Inode) LayoutFault) → table_of g blocks n ≡ r → inode_at g blocks n ≡ r
  read_as r e =
      ap (λ b. cond b (inode_at g blocks n) (Err Range)) (sym (lt-ltb n g.inodes less)) ∙ e

  pub has_cost : (r : Result (Option Inode) LayoutFault) → table_of g blocks n ≡ r
      → length (owned_by content r) ≡ cost_at (file_of g.inodes content r)
  has_cost (Err fault) e = refl
  has_cost (Ok None) e = refl
  has_cost (Ok (Some i)) e =
      let read = read_as (Ok (Some i)) e in
      let sound = is_read g blocks tree n i holds less read in
      let good = is_sound g blocks tree n i holds less read in
      let file = is_of_kind g blocks tree n i holds less read in
      has_length g content i sound.fits.count
      ∙ sym (costs g content i sound.fits.count i.kind good file)

  pub are_data : (r : Result (Option Inode) LayoutFault) → table_of g blocks n ≡ r
      → AllByRecursion (λ b. is_data g b ≡ true) (owned_by content r)
  are_data (Err fault) e = tt
  are_data (Ok None) e = tt
  are_data (Ok (Some i)) e =
      let read = read_as (Ok (Some i)) e in
      let good = is_sound g blocks tree n i holds less read in
      let file = is_of_kind g blocks tree n i holds less read in
      is_preserved g (pointer_blocks content i ++ numbers_of content i)
      (list_all-append (is_data_block_or_none g) (pointer_blocks content i) (numbers_of content i)
      ∙ (λ j. pointer_blocks_pass g content i i.kind good file j && numbers_pass g content i i.kind good file j))
