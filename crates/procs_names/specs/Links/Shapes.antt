-- What has to hold of a tree where names change in it.
use Rattle.std.specs.Prelude.{◌≡◌, ◌≢◌, ℕ, ◌-◌, ◌^◌, ◌<◌, ◌≤◌, true, false, List, Option, Some, None}
use Rattle.std.specs.Prelude.{Result, Ok, Err}
use Rattle.base.specs.declared.TheConstants.{MODE_BITS, MOST_LINKS}
use Rattle.nfs_types.specs.declared.ctx.Credential.{Credential}
use Rattle.nfs_types.specs.declared.ctx.Moment.{Moment}
use Rattle.nfs_types.specs.declared.status.Status.{Status}
use Rattle.nfs_spec.specs.Model.Names.{is_directory, parent_of}
use Rattle.nfs_spec.specs.Model.Node.{Body, DirentValue, Node}
use Rattle.nfs_spec.specs.Model.SetAttr.{first_of_tests}
use Rattle.nfs_spec.specs.Model.Sound.{SoundStamp, SoundTime, SoundVerifier}
use Rattle.nfs_spec.specs.Model.Tree.{Tree, free, node_at}
use Rattle.nfs_spec.specs.Procedures.Changes.{departed, entered, is_last_name, with_dirent}
use Rattle.nfs_spec.specs.Procedures.FirstTests.{may_change, dentry_tests}
use Rattle.nfs_spec.specs.Procedures.Places.{named_file}
use Rattle.procs_files.specs.Writable.{CanEnter, adds}
use Rattle.procs_files.specs.Heads.{IsFound}
use Rattle.procs_files.specs.declared.inode_attributes.InodeAttributes.{InodeAttributes}

-- The attributes of a file are such as a file may have, where so many inodes are.
pub record IsShaped (inodes : ℕ) (node : Node) : Type 0 where
  pub mode : node.mode ≤ MODE_BITS
  pub uid : node.uid < 2 ^ 32
  pub gid : node.gid < 2 ^ 32
  pub linked : 0 < node.nlink
  pub nlink : node.nlink ≤ MOST_LINKS
  pub atime : SoundTime node.atime
  pub mtime : SoundTime node.mtime
  pub ctime : SoundTime node.ctime
  pub stamp : SoundStamp node.stamp
  pub verifier : SoundVerifier node.body node.verifier
  pub directory : is_directory node.body ≡ true
      → (2 ≤ node.nlink) × (0 < parent_of node.body) × (parent_of node.body < inodes)

-- the file of a number, if there is one, keeps such attributes where it is changed
abbrev pub CanChange : Tree → ℕ → (Node → Node) → Type 0
CanChange tree number change =
    (node : Node) → node_at tree number ≡ Some node → IsShaped tree.geometry.inodes (change node)

-- a file with one link less
abbrev pub less_linked : Moment → Node → Node
less_linked moment node = record node { nlink = node.nlink - 1; ctime = moment }

-- a file that isn't gone with a name keeps such attributes
abbrev pub CanLose : Tree → Moment → Node → Type 0
CanLose tree moment node =
    is_last_name node ≡ false → IsShaped tree.geometry.inodes (less_linked moment node)

-- A name can be taken out of a directory, and the file that it leads to can lose it.
pub record CanTake (tree : Tree) (moment : Moment) (at : ℕ) (name : List ℕ) (number : ℕ) (file : Node)
    : Type 0 where
  pub departs : CanChange tree at (departed moment name file.body)
  pub apart : number ≢ at
  pub loses : CanLose tree moment file

-- what a name leads to in a directory, where this caller may change names there
abbrev pub IsLookupForChange : Tree → Credential → Node → List ℕ → Result (Option InodeAttributes) Status → Type 0
IsLookupForChange tree caller directory name (Err status) =
    first_of_tests (dentry_tests (may_change caller directory) directory name) ≡ Some status
IsLookupForChange tree caller directory name (Ok found) =
    (first_of_tests (dentry_tests (may_change caller directory) directory name) ≡ None)
    × IsFound tree (named_file tree directory name) found

-- A directory, if there is one of the number, can get this name for a file.
pub record CanEnterAt (tree : Tree) (moment : Moment) (at : ℕ) (name : List ℕ) (dirent : DirentValue)
    (file : Body) : Type 0 where
  pub shaped : CanChange tree at (entered moment name dirent file)
  pub enters : (node : Node) → node_at tree at ≡ Some node → CanEnter tree node.body name dirent
  pub has_space : (node : Node) → node_at tree at ≡ Some node
      → adds (with_dirent name dirent node.body) node.body ≤ free tree
