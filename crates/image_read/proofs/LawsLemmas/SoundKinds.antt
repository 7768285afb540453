-- What a sound inode of a directory, or of a link, tells of its fields.
use Rattle.std.proofs.Common.{◌≡◌, ◌/◌, ◌%◌, ◌<◌, ◌≤◌, Bool, true, cond, not, ◌&&◌, min, is_none}
use Rattle.std.proofs.Common.{nat_eq, nat_le, nat_lt, arith}
use Rattle.base.specs.declared.TheConstants.{BLOCK_BYTES, DIRECT_INDEXES, FIRST_DOUBLE_INDEX, LARGEST_DIRECTORY}
use Rattle.base.specs.declared.TheConstants.{TARGET_BYTES}
use Rattle.layout.specs.declared.geometry.Geometry.{Geometry}
use Rattle.layout.specs.declared.inode.Inode.{Inode}
use Rattle.layout.specs.declared.inode.InodeKind.TheVariants.{Directory, Link}
use Rattle.layout.specs.Decode.{span_of}
use Rattle.layout.specs.InodeForm.{is_sound_directory, is_sound_file, is_sound_kind, is_sound_link, is_sound_map}
use Rattle.layout.specs.InodeForm.{names_first}
use Rattle.inode.proofs.AllTests.{all_five, all_seven, all_three, is_less, no_more}

module _ (g : Geometry) (inode : Inode) where
  -- ---- a directory

  abbrev has_indirect : Bool
  has_indirect =
      cond (nat_lt DIRECT_INDEXES (inode.size / BLOCK_BYTES)) (not (nat_eq inode.indirect 0)) (nat_eq inode.indirect 0)

  abbrev direct_names_first : Bool
  direct_names_first = names_first (min (inode.size / BLOCK_BYTES) DIRECT_INDEXES) inode.direct

  abbrev directory_first : Bool
  directory_first = nat_le 2 inode.nlink && nat_le inode.size LARGEST_DIRECTORY
      && nat_eq (inode.size % BLOCK_BYTES) 0 && nat_lt 0 inode.parent && nat_lt inode.parent g.inodes
      && direct_names_first && has_indirect

  module _ (good : is_sound_kind g Directory inode ≡ true) where
    directory_rules : (directory_first ≡ true) × (nat_eq inode.double 0 ≡ true) × (is_none inode.verifier ≡ true)
    directory_rules =
        let three = all_three (is_sound_file inode) (is_sound_map g inode) (is_sound_directory g inode) good in
        all_three directory_first (nat_eq inode.double 0) (is_none inode.verifier) three.2

    pub no_double_of_directory : nat_eq inode.double 0 ≡ true
    no_double_of_directory = directory_rules.1

    pub no_verifier_of_directory : is_none inode.verifier ≡ true
    no_verifier_of_directory = directory_rules.2

    -- it spans no more blocks than lie in no inner block
    pub few_spanned : span_of inode ≤ FIRST_DOUBLE_INDEX
    few_spanned =
        let rules = all_seven (nat_le 2 inode.nlink) (nat_le inode.size LARGEST_DIRECTORY)
        (nat_eq (inode.size % BLOCK_BYTES) 0) (nat_lt 0 inode.parent) (nat_lt inode.parent g.inodes) direct_names_first has_indirect
        directory_rules.0 in
        let few = no_more inode.size LARGEST_DIRECTORY rules.1 in
        omega (arith, few)

    pub parent_inside : inode.parent < g.inodes
    parent_inside =
        let rules = all_seven (nat_le 2 inode.nlink) (nat_le inode.size LARGEST_DIRECTORY)
        (nat_eq (inode.size % BLOCK_BYTES) 0) (nat_lt 0 inode.parent) (nat_lt inode.parent g.inodes) direct_names_first has_indirect
        directory_rules.0 in
        is_less inode.parent g.inodes rules.4

  -- ---- a link

  abbrev link_first : Bool
  link_first = nat_le 1 inode.size && nat_le inode.size TARGET_BYTES && nat_eq inode.parent 0
      && names_first 1 inode.direct && nat_eq inode.indirect 0

  module _ (good : is_sound_kind g Link inode ≡ true) where
    link_rules : (link_first ≡ true) × (nat_eq inode.double 0 ≡ true) × (is_none inode.verifier ≡ true)
    link_rules =
        let three = all_three (is_sound_file inode) (is_sound_map g inode) (is_sound_link inode) good in
        all_three link_first (nat_eq inode.double 0) (is_none inode.verifier) three.2

    pub no_double_of_link : nat_eq inode.double 0 ≡ true
    no_double_of_link = link_rules.1

    pub no_verifier_of_link : is_none inode.verifier ≡ true
    no_verifier_of_link = link_rules.2

    first_of_link : (nat_le 1 inode.size ≡ true) × (nat_le inode.size TARGET_BYTES ≡ true)
        × (nat_eq inode.parent 0 ≡ true) × (names_first 1 inode.direct ≡ true) × (nat_eq inode.indirect 0 ≡ true)
    first_of_link =
        all_five (nat_le 1 inode.size) (nat_le inode.size TARGET_BYTES) (nat_eq inode.parent 0)
        (names_first 1 inode.direct) (nat_eq inode.indirect 0) link_rules.0

    pub no_indirect_of_link : nat_eq inode.indirect 0 ≡ true
    no_indirect_of_link = first_of_link.4

    pub some_target : 1 ≤ inode.size
    some_target = no_more 1 inode.size first_of_link.0

    pub short_target : inode.size ≤ TARGET_BYTES
    short_target = no_more inode.size TARGET_BYTES first_of_link.1
