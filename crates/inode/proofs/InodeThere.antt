-- What is known of an inode that was read in blocks that hold the files of a tree, and of its blocks.
use Rattle.std.proofs.Common.{◌≡◌, ℕ, ◌%◌, ◌<◌, ap, ◌∙◌, refl, subst, Bool, true, false, cond}
use Rattle.std.proofs.Common.{◌||◌, length, take, drop, replicate, nat_eq, nat_le, nat_lt, List, Some, Ok, Err}
use Rattle.std.proofs.Common.{arith}
use Rattle.std.specs.List.{list_all}
use Rattle.std.proofs.lemmas.Bool.{lt-ltb}
use Rattle.base.specs.declared.TheConstants.{BLOCK_BYTES, INODES_PER_BLOCK, INODE_BYTES}
use Rattle.disk.specs.Crash.{Image}
use Rattle.nfs_types.specs.Fits.{AreBytes}
use Rattle.nfs_spec.specs.Model.Tree.{Tree}
use Rattle.layout.specs.declared.fault.LayoutFault.TheVariants.{Range}
use Rattle.layout.specs.declared.geometry.Geometry.{Geometry}
use Rattle.layout.specs.declared.inode.Inode.{Inode}
use Rattle.layout.specs.Decode.{IsFile, IsOfKind, inode_at}
use Rattle.layout.specs.InodeForm.{SoundInode, is_sound_inode, is_sound_kind}
use Rattle.layout.specs.InodeForm.{is_data_block_or_none}
use Rattle.layout.specs.Geometry.{data_at}
use Rattle.layout.specs.Places.{inode_block, inode_offset, is_data}
use Rattle.layout.specs.Parts.{content_in}
use Rattle.layout.specs.Holds.{Holds}
use Rattle.layout.specs.Version.{has_double}
use Rattle.layout.proofs.AllNumbers as numbers
use Rattle.layout.proofs.Fits.{read_fits, part-length}
use Rattle.layout.proofs.WrittenBytes.{taken, dropped}
use Rattle.inode.proofs.AllTests.{all_two, is_less}

filled : (is : Bool) (block : List ℕ) → (is ≡ true → length block ≡ BLOCK_BYTES)
    → length (cond is block (replicate BLOCK_BYTES 0)) ≡ BLOCK_BYTES
filled true block long = long refl
filled false block long = refl

pub data_of : (none is : Bool) → none ≡ false → (none || is) ≡ true → is ≡ true
data_of true is some e = cc
data_of false is some e = e

module _ (g : Geometry) (blocks : Image) (tree : Tree) (n : ℕ) (inode : Inode)
    (holds : Holds g blocks tree) (less : n < g.inodes) (read : inode_at g blocks n ≡ Ok (Some inode)) where
  whole : g.inodes % INODES_PER_BLOCK ≡ 0
  whole = g.lawful.1.2

  on_disk : inode_block g n < g.blocks
  on_disk = let has_space = g.lawful.1.3 in omega (arith, has_space, less, whole)

  bytes_there : AreBytes (take INODE_BYTES (drop (inode_offset n) (blocks (inode_block g n))))
  bytes_there =
      part_bytes INODE_BYTES (inode_offset n) (blocks (inode_block g n))
      (holds.bytes (inode_block g n) on_disk).1
    where
      part_bytes : (len from : ℕ) (bytes : List ℕ) → AreBytes bytes → AreBytes (take len (drop from bytes))
      part_bytes len from bytes are = (taken len (dropped from (record { are = are }))).are

  pub is_read : SoundInode g inode
  unfolding inode_at
  is_read = read_fits g
      (take INODE_BYTES (drop (inode_offset n) (blocks (inode_block g n)))) bytes_there
      (part-length INODE_BYTES (inode_offset n) (blocks (inode_block g n))
      (let whole = (holds.bytes (inode_block g n) on_disk).0 in omega (arith, whole))) inode read

  pub is_sound : is_sound_kind g inode.kind inode ≡ true
  unfolding is_sound_inode
  is_sound = is_read.good

  pub is_of_kind : IsOfKind g (content_in g blocks) inode.kind inode
  is_of_kind =
      subst (IsFile g (content_in g blocks))
      (ap (λ b. cond b (inode_at g blocks n) (Err Range)) (lt-ltb n g.inodes less) ∙ read)
      (holds.parts.has.inodes n less)

  -- ---- its blocks

  pub long : (number : ℕ) → length (content_in g blocks number) ≡ BLOCK_BYTES
  long number = filled (is_data g number) (blocks number) (λ is.
      (holds.bytes number (is_less number g.blocks
      (all_two (nat_le (data_at g.blocks g.inodes) number) (nat_lt number g.blocks) is).1)).0)

  pub maps : (list_all (is_data_block_or_none g) inode.direct ≡ true)
      × (is_data_block_or_none g inode.indirect ≡ true) × (is_data_block_or_none g inode.double ≡ true)
      × ((nat_eq inode.double 0 || has_double g.version) ≡ true)
  maps = numbers.maps g inode is_read
