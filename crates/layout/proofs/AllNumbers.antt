-- The numbers of a file's blocks: how many there are, and where they lie.
use Rattle.std.proofs.Common.{◌≡◌, ℕ, Bool, true, false, refl, ◌||◌, ◌++◌}
use Rattle.std.proofs.Common.{length-append, length, List, nat_eq, arith}
use Rattle.std.specs.List.{list_all}
use Rattle.base.specs.declared.TheConstants.{DIRECT_INDEXES, FILE_INDEXES, INDIRECT_INDEXES}
use Rattle.disk.specs.Crash.{Image}
use Rattle.layout.specs.declared.geometry.Geometry.{Geometry}
use Rattle.layout.specs.declared.inode.Inode.{Inode}
use Rattle.layout.specs.declared.inode.InodeKind.{InodeKind}
use Rattle.layout.specs.declared.inode.InodeKind.TheVariants.{Regular, Directory, Link}
use Rattle.layout.specs.Decode.{doubled_in, numbers_in, numbers_of}
use Rattle.layout.specs.Fields.{numbers_at}
use Rattle.layout.specs.InodeForm.{SoundInode, is_data_block_or_none, is_sound_inode, is_sound_kind}
use Rattle.layout.specs.InodeForm.{is_sound_file, is_sound_map, is_sound_regular, is_sound_directory}
use Rattle.layout.specs.InodeForm.{is_sound_link}
use Rattle.layout.specs.Version.{has_double}
use Rattle.layout.proofs.FileNumbers.{indirect_pass}
use Rattle.layout.proofs.NumbersIn.{doubled_length, in_length, placed_in}
use Rattle.layout.proofs.Respelled.{all_four, all_three}

-- a sound inode names data blocks alone
pub map_is : (g : Geometry) (kind : InodeKind) (inode : Inode)
    → is_sound_kind g kind inode ≡ true → is_sound_map g inode ≡ true
map_is g Regular inode e =
    (all_three (is_sound_file inode) (is_sound_map g inode) (is_sound_regular inode) e).1
map_is g Directory inode e =
    (all_three (is_sound_file inode) (is_sound_map g inode) (is_sound_directory g inode) e).1
map_is g Link inode e =
    (all_three (is_sound_file inode) (is_sound_map g inode) (is_sound_link inode) e).1

pub all-length : (content : Image) (inode : Inode) → length inode.direct ≡ DIRECT_INDEXES
    → length (numbers_of content inode) ≡ FILE_INDEXES
unfolding numbers_of
all-length content inode direct =
    let indirect_block = in_length content inode.indirect in
    let further = doubled_length content inode.double in
    let first = length-append inode.direct (numbers_in content inode.indirect) in
    let both = length-append (inode.direct ++ numbers_in content inode.indirect) (doubled_in content inode.double) in
    omega (arith, both, first, indirect_block, further, direct)

module _ (g : Geometry) where
  abbrev are_placed : List ℕ → Bool
  are_placed = list_all (is_data_block_or_none g)

  pub maps : (inode : Inode) → SoundInode g inode
      → (are_placed inode.direct ≡ true) × (is_data_block_or_none g inode.indirect ≡ true)
      × (is_data_block_or_none g inode.double ≡ true) × ((nat_eq inode.double 0 || has_double g.version) ≡ true)
  unfolding is_sound_inode
  maps inode sound =
      all_four (are_placed inode.direct) (is_data_block_or_none g inode.indirect)
      (is_data_block_or_none g inode.double) (nat_eq inode.double 0 || has_double g.version)
      (map_is g inode.kind inode sound.good)

  -- without a double indirect block all numbers are those of data blocks, where the indirect block's are
  pub all_placed : (content : Image) (inode : Inode) → SoundInode g inode → nat_eq inode.double 0 ≡ true
      → (nat_eq inode.indirect 0 ≡ false
      → are_placed (numbers_at INDIRECT_INDEXES 0 (content inode.indirect)) ≡ true)
      → are_placed (numbers_of content inode) ≡ true
  all_placed content inode sound no_double placed =
      indirect_pass content inode no_double (is_data_block_or_none g) refl (maps inode sound).0
      (placed_in content inode.indirect g placed)
