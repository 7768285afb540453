-- What is to be written to a regular file, and what the tree is then.
use Rattle.std.specs.Prelude.{◌≡◌, ℕ, ◌<◌, ◌/◌, ◌%◌, List, Some, Ok}
use Rattle.base.specs.declared.TheConstants.{BLOCK_BYTES}
use Rattle.disk.specs.Crash.{Image}
use Rattle.nfs_types.specs.Fits.{AreBytes}
use Rattle.objects.specs.Spliced.{spliced}
use Rattle.nfs_spec.specs.Model.Node.{Node}
use Rattle.nfs_spec.specs.Model.Tree.{Tree, node_at, with_node}
use Rattle.nfs_spec.specs.Procedures.Write.{with_text}
use Rattle.layout.specs.declared.geometry.Geometry.{Geometry}
use Rattle.layout.specs.declared.inode.Inode.{Inode}
use Rattle.layout.specs.declared.inode.InodeKind.TheVariants as kinds
use Rattle.layout.specs.Decode.{content_of, inode_at, node_with}
use Rattle.layout.specs.Parts.{content_in}
use Rattle.inode.specs.Over.{number_at}
use Rattle.inode.specs.Shown.{body_in}
use Rattle.inode.specs.WriteSets.WriteSetContents.{WriteSetContents, IsWriteSet, image_of}
use Rattle.inode_data.specs.Filling.{HasRegular, IsPiece, grown_size}

-- A piece is to be written to the file of this inode: these are the bytes of its block with the piece, and this
-- is the file's size then.
pub record IsWrite (g : Geometry) (image : Image) (tree : Tree) (number : ℕ) (inode : Inode) (offset : ℕ)
    (piece bytes : List ℕ) (size : ℕ) : Type 0 where
  pub has : HasRegular g image tree number inode
  pub fits : IsPiece offset piece
  pub bytes_are : bytes
      ≡ spliced (content_of (content_in g image) (number_at g image inode (offset / BLOCK_BYTES)))
      (offset % BLOCK_BYTES) piece
  pub each : AreBytes bytes
  pub size_is : size ≡ grown_size inode.size offset piece

-- the file with the bytes in it
abbrev pub node_written : Geometry → Image → Inode → ℕ → List ℕ → Node
node_written g image inode offset piece = node_with inode (with_text offset piece (body_in g image inode))

-- the node with the bytes in it
abbrev pub rewritten : ℕ → List ℕ → Node → Node
rewritten offset text node = record node { body = with_text offset text node.body }

-- with what was written the blocks hold the tree in which a file has these bytes in it
pub record WritesText (write_set : WriteSetContents) (blocks : Image) (tree : Tree) (number offset : ℕ) (text : List ℕ) : Type 0
  where
    pub node : Node
    pub was : node_at tree number ≡ Some node
    pub is : IsWriteSet write_set blocks (with_node tree number (rewritten offset text node))

-- with what was written a regular file has this inode under this number
pub record NamesRegular (write_set : WriteSetContents) (blocks : Image) (number : ℕ) (inode : Inode) : Type 0 where
  pub less : number < write_set.there.geometry.inodes
  pub read : inode_at write_set.there.geometry (image_of blocks write_set) number ≡ Ok (Some inode)
  pub regular : inode.kind ≡ kinds.Regular

-- A piece was written to the file of an inode: with what is written now the blocks hold the tree in which the file
-- has it, and its inode is the next.
pub record PutsPiece (write_set new : WriteSetContents) (blocks : Image) (tree : Tree) (number : ℕ) (inode next : Inode)
    (offset : ℕ) (piece : List ℕ) : Type 0 where
  pub is : IsWriteSet new blocks
      (with_node tree number (node_written write_set.there.geometry (image_of blocks write_set) inode offset piece))
  pub names : NamesRegular new blocks number next
