-- Blocks stand for a tree where they hold its files and it is sound.
use Rattle.std.proofs.Common.{◌≡◌, refl, arith, Option, Some, None}
use Rattle.disk.specs.Crash.{Image}
use Rattle.nfs_spec.specs.Model.Node.{Node}
use Rattle.nfs_spec.specs.Model.Sound.{Sound}
use Rattle.nfs_spec.specs.Model.Tree.{Tree, node_at}
use Rattle.layout.specs.declared.geometry.Geometry.{Geometry}
use Rattle.layout.specs.Holds.{Holds}
use Rattle.layout.specs.Stands.{Stands}

pub unnumbered : (tree : Tree) → Sound tree → node_at tree 0 ≡ None
unnumbered tree sound = by_node (node_at tree 0) refl
  where
    by_node : (found : Option Node) → node_at tree 0 ≡ found → found ≡ None
    by_node None e = refl
    by_node (Some node) e = let least = (sound.files 0 node e).least in absurd (omega (arith, least))

pub holds_of : (g : Geometry) (blocks : Image) (tree : Tree) → Stands g blocks tree → Holds g blocks tree
holds_of g blocks tree stands = record {
  bytes = stands.bytes;
  parts = record {
    geometry = stands.parts.geometry;
    unnumbered = unnumbered tree stands.parts.sound;
    has = stands.parts.has;
    marked = stands.parts.marked;
  };
}

pub stands_of : (g : Geometry) (blocks : Image) (tree : Tree) → Holds g blocks tree → Sound tree
    → Stands g blocks tree
stands_of g blocks tree holds sound = record {
  bytes = holds.bytes;
  parts = record {
    geometry = holds.parts.geometry;
    sound = sound;
    has = holds.parts.has;
    marked = holds.parts.marked;
  };
}
