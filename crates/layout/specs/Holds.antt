-- Which tree's files the blocks of an image hold, sound or not: what stays true between the writes of one
-- change.
use Rattle.std.specs.Prelude.{◌≡◌, ℕ, ◌<◌, length, None}
use Rattle.base.specs.declared.TheConstants.{BLOCK_BYTES}
use Rattle.disk.specs.Crash.{Image}
use Rattle.nfs_types.specs.Fits.{AreBytes}
use Rattle.nfs_spec.specs.Model.Tree.{Tree, node_at}
use Rattle.layout.specs.declared.geometry.Geometry.{Geometry}
use Rattle.layout.specs.Owners.{IsMarked}
use Rattle.layout.specs.Parts.{Parts, parts_of}
use Rattle.layout.specs.Stands.{HasFiles, geometry_of}

-- The parts have the files of the tree, none of which has the number 0, no block has two owners, and the
-- bitmaps mark what is in use.
pub record PartsHold (g : Geometry) (parts : Parts) (tree : Tree) : Type 0 where
  pub geometry : tree.geometry ≡ geometry_of g
  pub unnumbered : node_at tree 0 ≡ None
  pub has : HasFiles g parts tree
  pub marked : IsMarked g parts

-- the blocks are blocks, and their parts have the tree's files
pub record Holds (g : Geometry) (blocks : Image) (tree : Tree) : Type 0 where
  pub bytes : (number : ℕ) → number < g.blocks → (length (blocks number) ≡ BLOCK_BYTES)
      × AreBytes (blocks number)
  pub parts : PartsHold g (parts_of g blocks) tree
