-- What a new file is, and where one can be made.
use Rattle.std.specs.Prelude.{◌≡◌, ℕ, ◌≤◌, true, false, List, [], Option, None, Result}
use Rattle.base.specs.declared.TheConstants.{MODE_BITS}
use Rattle.nfs_types.specs.Fits.{AreBytes, NewAttributesFit}
use Rattle.nfs_types.specs.declared.attributes.FileKind.{FileKind}
use Rattle.nfs_types.specs.declared.attributes.NewAttributes.{NewAttributes}
use Rattle.nfs_types.specs.declared.ctx.Ctx.{Ctx}
use Rattle.nfs_types.specs.declared.reply.Created.{Created}
use Rattle.nfs_types.specs.declared.status.Status.{Status}
use Rattle.nfs_types.specs.declared.verifier.Verifier.{Verifier}
use Rattle.nfs_spec.specs.Model.Cost.{cost}
use Rattle.nfs_spec.specs.Model.Names.{entries_of, is_directory, parent_of}
use Rattle.nfs_spec.specs.Model.Node.{Node, Body}
use Rattle.nfs_spec.specs.Model.Sound.{SoundBody, SoundVerifier}
use Rattle.nfs_spec.specs.Model.Tree.{Tree, free}
use Rattle.nfs_spec.specs.Procedures.FirstTests.{is_long, is_no_name}
use Rattle.nfs_spec.specs.Procedures.Fresh.{IsNewNumber, IsUnused, fresh}
use Rattle.nfs_spec.specs.Procedures.MkDir.{is_full}
use Rattle.nfs_spec.specs.Procedures.Places.{is_own_name, named_file}
use Rattle.nfs_spec.specs.Procedures.StepForms.{Effect}
use Rattle.procs_files.specs.Writable.{SoundInodeAttributes, first_body}
use Rattle.procs_files.specs.Heads.{IsBodyOf, IsDone, node_of}
use Rattle.procs_files.specs.declared.inode_attributes.InodeAttributes.{InodeAttributes}

-- a file of the caller's, made now by this transaction, of no size
abbrev pub blank_inode_attributes : Ctx → FileKind → ℕ → Option Verifier → ℕ → InodeAttributes
blank_inode_attributes ctx kind mode verifier nlink = record {
  number = 0;
  kind = kind;
  mode = mode;
  uid = ctx.credential.uid;
  gid = ctx.credential.gid;
  nlink = nlink;
  size = 0;
  used = 0;
  parent = 0;
  atime = ctx.moment;
  mtime = ctx.moment;
  ctime = ctx.moment;
  stamp = record { boot = ctx.boot; transaction = ctx.transaction };
  verifier = verifier;
}

-- The head is that of a new file with this in it, but for its number, before its attributes are set.
pub record IsFresh (ctx : Ctx) (inode_attributes : InodeAttributes) (target : List ℕ) (mode : ℕ) (verifier : Option Verifier)
    (body : Body) : Type 0 where
  pub is : node_of inode_attributes body ≡ fresh ctx mode verifier body
  pub fits : IsBodyOf inode_attributes body
  pub first : first_body inode_attributes target ≡ body

-- The tests of a new file in a directory were passed, and the call fits.
pub record CanMake (tree : Tree) (at : ℕ) (directory : Node) (name : List ℕ) (wanted : NewAttributes) (mode : ℕ)
    (verifier : Option Verifier) (body : Body) : Type 0 where
  pub directory_is : is_directory directory.body ≡ true
  pub lawful : is_no_name name ≡ false
  pub short : is_long name ≡ false
  pub not_own : is_own_name name ≡ false
  pub absent : named_file tree directory name ≡ None
  pub bytes : AreBytes name
  pub wanted_fits : NewAttributesFit wanted
  pub mode_bits : mode ≤ MODE_BITS
  pub empty : entries_of body ≡ []
  pub parent : is_directory body ≡ true → parent_of body ≡ at
  pub not_full : is_directory body ≡ true → is_full directory ≡ false
  pub verifier_fits : SoundVerifier body verifier
  pub body_sound : SoundBody body

-- The tests of a new name in a directory were passed.
pub record IsNewName (tree : Tree) (directory : Node) (name : List ℕ) : Type 0 where
  pub directory_is : is_directory directory.body ≡ true
  pub lawful : is_no_name name ≡ false
  pub short : is_long name ≡ false
  pub not_own : is_own_name name ≡ false
  pub absent : named_file tree directory name ≡ None
  pub bytes : AreBytes name

-- A file of this head, with this in it, can be put into the tree.
pub record CanMakeIn (tree : Tree) (inode_attributes : InodeAttributes) (body : Body) : Type 0 where
  pub unused : IsUnused tree inode_attributes.number
  pub sound : SoundInodeAttributes tree.geometry.inodes inode_attributes
  pub lawful : SoundBody body
  pub has_space : cost body ≤ free tree

-- For some number that a new file would get, it is done.
pub record IsMade (stands : Tree → Type 0) (tree : Tree) (effect : Option ℕ → Result (Effect Created) Status)
    (outcome : Result Created Status) : Type 0 where
  pub new : Option ℕ
  pub is_new : IsNewNumber tree new
  pub done : IsDone stands tree (effect new) outcome
