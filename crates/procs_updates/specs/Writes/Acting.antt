-- What a part of a procedure does, and the heads of changed files.
use Rattle.std.specs.Prelude.{◌≡◌, ℕ, true, false, nat_lt, unwrap_or, List, Option, Some, None, Result, Ok}
use Rattle.nfs_types.specs.declared.attributes.NewAttributes.{NewAttributes}
use Rattle.nfs_types.specs.declared.ctx.Ctx.{Ctx}
use Rattle.nfs_types.specs.declared.ctx.Moment.{Moment}
use Rattle.nfs_types.specs.declared.status.Status.{Status}
use Rattle.nfs_spec.specs.Model.Node.{Node, Body}
use Rattle.nfs_spec.specs.Model.SetAttr.{mode_of, refusal, set_time, with_attributes, with_size}
use Rattle.nfs_spec.specs.Model.Tree.{Tree, free, with_node}
use Rattle.nfs_spec.specs.Procedures.FirstTests.{unless}
use Rattle.nfs_spec.specs.Procedures.StepForms.{Effect, answer_of, tree_after}
use Rattle.nfs_spec.specs.Procedures.Write.{with_text}
use Rattle.procs_files.specs.declared.inode_attributes.InodeAttributes.{InodeAttributes}
use Rattle.procs_files.specs.Writable.{adds, headed}
use Rattle.procs_files.specs.Heads.{IsFileIn, node_of}

-- What was answered, and the tree that the files now stand for, are those of what the call does; and this is the
-- head of its file there.
pub record IsActed {A : Type 0} (stands : Tree → Type 0) (tree : Tree) (number : ℕ)
    (effect : Result (Effect A) Status) (outcome : Result A Status) (inode_attributes : InodeAttributes) : Type 0 where
  pub answered : outcome ≡ answer_of effect
  pub leads : stands (tree_after tree effect)
  pub number_is : inode_attributes.number ≡ number
  pub body : Body
  pub there : IsFileIn (tree_after tree effect) inode_attributes body

-- the head with the attributes that are given, but for the size
abbrev pub set_inode_attributes : Moment → NewAttributes → InodeAttributes → InodeAttributes
set_inode_attributes moment wanted file = record file {
  mode = mode_of wanted.mode file.mode;
  uid = unwrap_or wanted.uid file.uid;
  gid = unwrap_or wanted.gid file.gid;
  atime = set_time moment wanted.atime file.atime;
  mtime = set_time moment (with_size wanted.size wanted.mtime) file.mtime;
  ctime = moment;
}

-- the head of a file whose bytes or names change
abbrev pub touched_inode_attributes : Moment → InodeAttributes → InodeAttributes
touched_inode_attributes moment file = record file { mtime = moment; ctime = moment }

-- what SETATTR does with the file that it found
abbrev pub setting : Tree → Ctx → NewAttributes → Option Moment → ℕ → Node → Result (Effect (Unit {0})) Status
setting tree ctx wanted guard number node =
    unless (refusal ctx wanted guard node)
    (Ok (record { answer = tt; next = with_node tree number (with_attributes ctx.moment wanted node) }))

-- The bytes are written and this is the file's head, or its blocks don't suffice and nothing is changed.
abbrev pub IsWritten : (Tree → Type 0) → Tree → Moment → ℕ → List ℕ → InodeAttributes → Body → Option InodeAttributes → Type 0
IsWritten stands tree moment offset text file body None =
    (nat_lt (free tree) (adds (with_text offset text body) body) ≡ true) × stands tree
IsWritten stands tree moment offset text file body (Some next) =
    (nat_lt (free tree) (adds (with_text offset text body) body) ≡ false)
    × (next ≡ headed (touched_inode_attributes moment file) (with_text offset text body))
    × stands (with_node tree file.number (node_of (touched_inode_attributes moment file) (with_text offset text body)))
