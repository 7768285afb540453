-- Which tree the blocks of an image stand for.
use Rattle.std.specs.Prelude.{◌≡◌, ℕ, ◌-◌, ◌<◌, length, Option}
use Rattle.base.specs.declared.TheConstants.{BLOCK_BYTES}
use Rattle.disk.specs.Crash.{Image}
use Rattle.nfs_types.specs.Fits.{AreBytes}
use Rattle.nfs_spec.specs.Model.Sound.{Sound}
use Rattle.nfs_spec.specs.Model.Node.{Node}
use Rattle.nfs_spec.specs.Model.Tree.{Tree, node_at}
use Rattle.nfs_spec.specs.Model.Tree as model
use Rattle.layout.specs.declared.geometry.Geometry.{Geometry}
use Rattle.layout.specs.Decode.{IsFile, file_of}
use Rattle.layout.specs.Owners.{IsMarked}
use Rattle.layout.specs.Parts.{Parts, parts_of}
use Rattle.layout.specs.Geometry.{data_at}

-- how many data blocks and inodes an image has
abbrev pub geometry_of : Geometry → model.Geometry
geometry_of g = record { data_blocks = g.blocks - data_at g.blocks g.inodes; inodes = g.inodes }

-- the file of a number: none past the last inode
abbrev pub file_at : Geometry → Parts → ℕ → Option Node
file_at g parts number = file_of g.inodes parts.content (parts.table number)

-- Each inode with its blocks is a file's, these are the tree's files, and it has no other.
pub record HasFiles (g : Geometry) (parts : Parts) (tree : Tree) : Type 0 where
  pub inodes : (number : ℕ) → number < g.inodes → IsFile g parts.content (parts.table number)
  pub files : (number : ℕ) → node_at tree number ≡ file_at g parts number

-- The parts stand for the tree: it is sound, they have its files, no block has two owners, and the bitmaps
-- mark what is in use.
pub record PartsStand (g : Geometry) (parts : Parts) (tree : Tree) : Type 0 where
  pub geometry : tree.geometry ≡ geometry_of g
  pub sound : Sound tree
  pub has : HasFiles g parts tree
  pub marked : IsMarked g parts

-- the blocks are blocks, and their parts stand for the tree
pub record Stands (g : Geometry) (blocks : Image) (tree : Tree) : Type 0 where
  pub bytes : (number : ℕ) → number < g.blocks → (length (blocks number) ≡ BLOCK_BYTES)
      × AreBytes (blocks number)
  pub parts : PartsStand g (parts_of g blocks) tree
