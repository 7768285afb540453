-- What is counted of an image's names, beside its table.
use Rattle.std.specs.Prelude.{◌≡◌, ℕ, ◌+◌, ◌<◌, List, count_by, get_or, length, min, Option, Some, None, Ok}
use Rattle.base.specs.declared.TheConstants.{MOST_LINKS}
use Rattle.disk.specs.Crash.{Image}
use Rattle.nfs_spec.specs.Model.Names.{is_directory_at}
use Rattle.nfs_spec.specs.Model.Node.{DirentValue}
use Rattle.nfs_spec.specs.Model.Tree.{node_at}
use Rattle.layout.specs.declared.geometry.Geometry.{Geometry}
use Rattle.layout.specs.declared.inode.Inode.{Inode}
use Rattle.layout.specs.declared.inode.InodeKind.TheVariants.{Directory}
use Rattle.layout.specs.Decode.{named_in}
use Rattle.layout.specs.Parts.{content_in, parts_of, table_of}
use Rattle.image_read.specs.ImageCounts.Tally.{AreCounts, times}
use Rattle.image_read.specs.Laws.TreeOf.{all_named, named_of, tree_of}
use Rattle.image_read.specs.declared.counts.links.Links.{Links}
use Rattle.image_read.specs.Counts.Linked.{HasCounts}

-- This is the table of the image, and these are the counts of its names, as far as a file may have links: of all names,
-- of those that a directory has in its parent, and of the directories that a directory names.
pub record IsCounted (g : Geometry) (blocks : Image) (table : List (Option Inode)) (links : Links) : Type 0 where
  pub long : length table ≡ g.inodes
  pub inodes : (number : ℕ) → number < g.inodes → table_of g blocks number ≡ Ok (get_or table number None)
  pub sizes : HasCounts g.inodes links
  pub names : AreCounts (all_named g (parts_of g blocks)) links.names
  pub by_parent : (number : ℕ) (inode : Inode) → table_of g blocks number ≡ Ok (Some inode) → inode.kind ≡ Directory
      → get_or links.by_parent number 0
      ≡ min (times (named_of g.inodes (content_in g blocks) (table_of g blocks inode.parent)) number) (MOST_LINKS + 1)
  pub children : (number : ℕ) (inode : Inode) → table_of g blocks number ≡ Ok (Some inode) → inode.kind ≡ Directory
      → get_or links.children number 0
      ≡ min (count_by (λ (e : List ℕ × DirentValue). is_directory_at (node_at (tree_of g blocks) e.1.number))
      (named_in g.inodes (content_in g blocks) inode)) (MOST_LINKS + 1)
