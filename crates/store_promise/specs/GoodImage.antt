-- Images that can be opened.
use Rattle.std.specs.Prelude.{◌≡◌, ℕ, ◌≤◌, Some}
use Rattle.base.specs.declared.TheConstants.{SUPER_BLOCK}
use Rattle.disk.specs.Crash.{Image}
use Rattle.circ.specs.Log.Overlay.{over, IsInRange, HasHomes}
use Rattle.nfs_spec.specs.Model.Node.{Node}
use Rattle.nfs_spec.specs.Model.Tree.{Tree, node_at}
use Rattle.layout.specs.declared.super_block.Super.{Super}
use Rattle.layout.specs.Homes.{homes_of}
use Rattle.layout.specs.Stands.{Stands}
use Rattle.layout.specs.SuperForm.{IsSuper}

-- A good image of so many blocks, with the tree and the boot number that an opening finds in it: its super
-- block is one of that size, the headers of its log belong together and each logged position has a home, its
-- homes with the log laid over them stand for the tree, and no file was made in a later boot.
pub record IsGoodImage (size : ℕ) (image : Image) (tree : Tree) (boot : ℕ) : Type 0 where
  pub super : Super
  pub is_super : IsSuper (image SUPER_BLOCK) super
  pub size_is : super.geometry.blocks ≡ size
  pub boot_is : super.boot ≡ boot
  pub range : IsInRange image
  pub homes : HasHomes size image
  pub stands : Stands super.geometry (homes_of size (over image)) tree
  pub stamps : (number : ℕ) (node : Node) → node_at tree number ≡ Some node → node.stamp.boot ≤ boot
