-- A pointer block that names what is no data block is in no blocks that hold the files of a tree.
use Rattle.std.proofs.Common.{◌≡◌, ℕ, sym, ap, ◌∙◌, refl, Bool, true, false, ◌||◌}
use Rattle.std.proofs.Common.{nat_eq, nat_le, is_none}
use Rattle.std.specs.List.{list_all}
use Rattle.base.specs.declared.TheConstants.{INDIRECT_INDEXES, TARGET_BYTES}
use Rattle.disk.specs.Crash.{Image}
use Rattle.layout.specs.declared.geometry.Geometry.{Geometry}
use Rattle.layout.specs.declared.inode.Inode.{Inode}
use Rattle.layout.specs.declared.inode.InodeKind.{InodeKind}
use Rattle.layout.specs.declared.inode.InodeKind.TheVariants.{Regular, Directory, Link}
use Rattle.layout.specs.Decode.{IsOfKind, doubled_in, numbers_in, numbers_of, pointer_blocks}
use Rattle.layout.specs.Fields.{numbers_at}
use Rattle.layout.specs.InodeForm.{is_data_block_or_none, is_sound_kind, is_sound_file, is_sound_map}
use Rattle.layout.specs.InodeForm.{is_sound_link, names_first}
use Rattle.layout.specs.Version.{has_double}
use Rattle.layout.proofs.FileNumbers.{direct_pass, parts_pass, pass_indirect_pointer, pointers_pass}
use Rattle.layout.proofs.NumbersIn.{some_in}
use Rattle.layout.proofs.Respelled.{all_four}
use Rattle.inode.proofs.AllTests.{all_three, all_five, all_two}

module _ (g : Geometry) (content : Image) (inode : Inode) where
  abbrev test : ℕ → Bool
  test = is_data_block_or_none g

  -- a link has no pointer blocks
  link_places : is_sound_kind g Link inode ≡ true
      → (list_all test inode.direct ≡ true) × (test inode.indirect ≡ true) × (nat_eq inode.indirect 0 ≡ true)
      × (test inode.double ≡ true) × (nat_eq inode.double 0 ≡ true)
  link_places good =
      let three = all_three (is_sound_file inode) (is_sound_map g inode) (is_sound_link inode) good in
      let first = all_two _ (nat_eq inode.double 0) (all_two _ (is_none inode.verifier) three.2).0 in
      let rules = all_five (nat_le 1 inode.size) (nat_le inode.size TARGET_BYTES) (nat_eq inode.parent 0)
      (names_first 1 inode.direct) (nat_eq inode.indirect 0) first.0 in
      let map = all_four (list_all test inode.direct) (test inode.indirect) (test inode.double)
      (nat_eq inode.double 0 || has_double g.version) three.1 in
      (map.0, map.1, rules.4, map.2, first.1)

  -- all blocks of a file are data blocks
  pub numbers_pass : (kind : InodeKind) → is_sound_kind g kind inode ≡ true → IsOfKind g content kind inode
      → list_all test (numbers_of content inode) ≡ true
  numbers_pass Regular good file = file.mapped.numbers
  numbers_pass Directory good file = file.mapped.numbers
  numbers_pass Link good file =
      let places = link_places good in
      direct_pass content inode places.4 places.2 test refl places.0

  pub pointer_blocks_pass : (kind : InodeKind) → is_sound_kind g kind inode ≡ true → IsOfKind g content kind inode
      → list_all test (pointer_blocks content inode) ≡ true
  pointer_blocks_pass Regular good file = file.mapped.pointers
  pointer_blocks_pass Directory good file = file.mapped.pointers
  pointer_blocks_pass Link good file =
      let places = link_places good in
      pass_indirect_pointer content inode places.4 test refl places.1 places.3

  module _ (kind : InodeKind) (good : is_sound_kind g kind inode ≡ true) (file : IsOfKind g content kind inode) where
    -- and so are those that its indirect block names
    pub indirect_pass : nat_eq inode.indirect 0 ≡ false
        → list_all test (numbers_at INDIRECT_INDEXES 0 (content inode.indirect)) ≡ true
    indirect_pass some =
        ap (list_all test) (sym (some_in content inode.indirect some))
        ∙ (parts_pass content inode test (numbers_pass kind good file)).1

    -- its inner blocks, and those that these name
    pub inner_pass : list_all test (numbers_in content inode.double) ≡ true
    inner_pass = (pointers_pass content inode test (pointer_blocks_pass kind good file)).2

    pub doubled_passes : list_all test (doubled_in content inode.double) ≡ true
    doubled_passes = (parts_pass content inode test (numbers_pass kind good file)).2
