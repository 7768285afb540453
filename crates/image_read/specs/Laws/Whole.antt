-- What is looked at of an image as a whole, beside each file by itself and the bitmaps.
use Rattle.std.specs.Prelude.{◌≡◌, ◌≢◌, ℕ, ◌+◌, ◌<◌, true, List, count_by, Some, None, Ok}
use Rattle.base.specs.declared.TheConstants.{ROOT}
use Rattle.disk.specs.Crash.{Image}
use Rattle.nfs_spec.specs.Model.Names.{ancestor, is_directory_at}
use Rattle.nfs_spec.specs.Model.Node.{DirentValue}
use Rattle.nfs_spec.specs.Model.Tree.{node_at}
use Rattle.layout.specs.declared.geometry.Geometry.{Geometry}
use Rattle.layout.specs.declared.inode.Inode.{Inode}
use Rattle.layout.specs.declared.inode.InodeKind.TheVariants.{Directory}
use Rattle.layout.specs.Decode.{named_in}
use Rattle.layout.specs.Owners.{is_used}
use Rattle.layout.specs.Parts.{content_in, parts_of, table_of}
use Rattle.image_read.specs.Laws.TreeOf.{HasNames, all_named, named_numbers, tree_of}
use Rattle.image_read.specs.ImageCounts.Tally.{times}

-- how often the slots of all directories name a number
abbrev pub named : Geometry → Image → ℕ → ℕ
named g blocks number = times (all_named g (parts_of g blocks)) number

-- A directory has two links and one for each directory that it names. The root is unnamed and its own parent, each
-- other one is named once, by its parent; and each is reached from the root.
pub record IsLinkedDirectory (g : Geometry) (blocks : Image) (number : ℕ) (inode : Inode) : Type 0 where
  pub counted : inode.nlink ≡ 2
      + count_by (λ (e : List ℕ × DirentValue). is_directory_at (node_at (tree_of g blocks) e.1.number))
      (named_in g.inodes (content_in g blocks) inode)
  pub root : number ≡ ROOT → (named g blocks ROOT ≡ 0) × (inode.parent ≡ ROOT)
  pub once : number ≢ ROOT → named g blocks number ≡ 1
  pub parent : number ≢ ROOT → (parent : Inode) × (table_of g blocks inode.parent ≡ Ok (Some parent))
      × (times (named_numbers g.inodes (content_in g blocks) parent.kind parent) number ≡ 1)
  pub reached : (steps : ℕ) × (ancestor (tree_of g blocks) steps number ≡ ROOT)

pub record IsWhole (g : Geometry) (blocks : Image) : Type 0 where
  pub zero : table_of g blocks 0 ≡ Ok None
  pub root : Inode
  pub root_is : table_of g blocks ROOT ≡ Ok (Some root)
  pub root_directory : root.kind ≡ Directory
  pub root_stamp : root.stamp ≡ record { boot = 0; transaction = 0 }
  pub names : (number : ℕ) (inode : Inode) → table_of g blocks number ≡ Ok (Some inode)
      → inode.kind ≡ Directory → HasNames g (content_in g blocks) inode
  pub there : (number : ℕ) → 0 < named g blocks number → is_used (table_of g blocks number) ≡ true
  pub files : (number : ℕ) (inode : Inode) → table_of g blocks number ≡ Ok (Some inode)
      → (inode.kind ≡ Directory → ⊥) → inode.nlink ≡ named g blocks number
  pub directories : (number : ℕ) (inode : Inode) → table_of g blocks number ≡ Ok (Some inode)
      → inode.kind ≡ Directory → IsLinkedDirectory g blocks number inode
