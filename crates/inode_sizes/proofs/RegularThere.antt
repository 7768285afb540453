-- A regular file in blocks that hold the files of a tree.
use Rattle.std.proofs.Common.{◌≡◌, ℕ, ◌<◌, ◌≤◌, subst, true, List, length, nat_eq, nat_le, Some, Ok, arith}
use Rattle.base.specs.declared.TheConstants.{BLOCK_BYTES, FILE_INDEXES, LARGEST_FILE}
use Rattle.disk.specs.Crash.{Image}
use Rattle.nfs_spec.specs.Model.Tree.{Tree}
use Rattle.layout.specs.declared.geometry.Geometry.{Geometry}
use Rattle.layout.specs.declared.inode.Inode.{Inode}
use Rattle.layout.specs.declared.inode.InodeKind.TheVariants as kinds
use Rattle.layout.specs.Decode.{IsOfKind, IsRegular, bytes_of, inode_at, numbers_of}
use Rattle.layout.specs.Holds.{Holds}
use Rattle.layout.specs.InodeForm.{SoundInode, is_sound_file, is_sound_kind, is_sound_map, is_sound_regular}
use Rattle.layout.specs.Parts.{content_in}
use Rattle.layout.proofs.AllNumbers.{all-length}
use Rattle.inode.proofs.AllTests.{all_three, all_two, no_more}
use Rattle.inode.proofs.FileSizes.{bytes-length}
use Rattle.inode.proofs.InodeThere.{is_of_kind, is_read, is_sound, long}
use Rattle.inode_data.specs.Filling.{HasMapped}

-- the blocks hold the tree, in which a regular file has this inode under this number
pub record IsRegularThere (g : Geometry) (image : Image) (tree : Tree) (n : ℕ) (inode : Inode) : Type 0 where
  pub holds : Holds g image tree
  pub less : n < g.inodes
  pub read : inode_at g image n ≡ Ok (Some inode)
  pub regular : inode.kind ≡ kinds.Regular

module _ (g : Geometry) (image : Image) (tree : Tree) (n : ℕ) (inode : Inode)
    (has : IsRegularThere g image tree n inode) where
  abbrev pub was : Image
  was = content_in g image

  abbrev pub numbers : List ℕ
  numbers = numbers_of was inode

  pub sound : SoundInode g inode
  sound = is_read g image tree n inode has.holds has.less has.read

  pub count : length numbers ≡ FILE_INDEXES
  count = all-length was inode sound.fits.count

  pub long_content : (q : ℕ) → length (was q) ≡ BLOCK_BYTES
  long_content = long g image tree n inode has.holds has.less has.read

  pub rules : IsRegular g was inode
  rules = subst (λ kind. IsOfKind g was kind inode) has.regular
      (is_of_kind g image tree n inode has.holds has.less has.read)

  good : is_sound_kind g kinds.Regular inode ≡ true
  good = subst (λ kind. is_sound_kind g kind inode ≡ true) has.regular
      (is_sound g image tree n inode has.holds has.less has.read)

  pub size_fits : inode.size ≤ LARGEST_FILE
  size_fits =
      let tests = all_three (is_sound_file inode) (is_sound_map g inode) (is_sound_regular inode) good in
      no_more inode.size LARGEST_FILE (all_two (nat_le inode.size LARGEST_FILE) (nat_eq inode.parent 0) tests.2).0

  pub bytes_count : length (bytes_of was numbers) ≡ LARGEST_FILE
  bytes_count = let all = bytes-length was long_content numbers in let many = count in omega (arith, all, many)

  pub mapped : HasMapped g image tree n inode
  mapped = record { holds = has.holds; less = has.less; read = has.read; mapped = rules.mapped }
