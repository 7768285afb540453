-- New files, their numbers and their attributes (RFC 1813, sections 3.3.8 to 3.3.10).
use Rattle.std.specs.Prelude.{◌≡◌, ℕ, suc, ◌<◌, List, Option, Some, None, Result}
use Rattle.nfs_types.specs.declared.attributes.NewAttributes.{NewAttributes}
use Rattle.nfs_types.specs.declared.attributes.SetTime.TheVariants.{Unchanged}
use Rattle.nfs_types.specs.declared.ctx.Ctx.{Ctx}
use Rattle.nfs_types.specs.declared.reply.Created.{Created}
use Rattle.nfs_types.specs.declared.status.Status.{Status}
use Rattle.nfs_types.specs.declared.verifier.Verifier.{Verifier}
use Rattle.nfs_spec.specs.Model.Attributes.{attributes_of}
use Rattle.nfs_spec.specs.Model.Node.{Node, Body, DirentValue}
use Rattle.nfs_spec.specs.Model.SetAttr.{refusal, with_attributes}
use Rattle.nfs_spec.specs.Model.Tree.{Tree, node_at, with_node}
use Rattle.nfs_spec.specs.Procedures.Changes.{changed_at, entered, if_dirent, parent_links}
use Rattle.nfs_spec.specs.Procedures.Places.{least_free_slot}
use Rattle.nfs_spec.specs.Procedures.StepForms.{Effect, handle_of}
use Rattle.nfs_spec.specs.Procedures.FirstTests.{unless}

-- a number that a file may have, and none has
pub record IsUnused (tree : Tree) (number : ℕ) : Type 0 where
  pub least : 0 < number
  pub most : number < tree.geometry.inodes
  pub free : node_at tree number ≡ None

-- The number that a new file would get: any that is unused. There is none only where all are used.
abbrev pub IsNewNumber : Tree → Option ℕ → Type 0
IsNewNumber tree None = (number : ℕ) → IsUnused tree number → ⊥
IsNewNumber tree (Some number) = IsUnused tree number

-- no attribute is given
abbrev pub nothing_given : NewAttributes
nothing_given = record {
  mode = None;
  uid = None;
  gid = None;
  size = None;
  atime = Unchanged;
  mtime = Unchanged;
}

-- what is new has no size to be given, unless it is a regular file
abbrev pub without_size : NewAttributes → NewAttributes
without_size wanted = record wanted { size = None }

-- What a file is before its attributes are set: the caller's, made now by this transaction, with one link, or
-- as a directory with its own `.` as the second.
abbrev pub fresh : Ctx → ℕ → Option Verifier → Body → Node
fresh ctx mode verifier body = record {
  mode = mode;
  uid = ctx.credential.uid;
  gid = ctx.credential.gid;
  nlink = suc (parent_links body);
  atime = ctx.moment;
  mtime = ctx.moment;
  ctime = ctx.moment;
  stamp = record { boot = ctx.boot; transaction = ctx.transaction };
  verifier = verifier;
  body = body;
}

-- its attributes are set as by SETATTR of its owner
abbrev pub made : Ctx → NewAttributes → Node → Node
made ctx wanted node = with_attributes ctx.moment wanted node

-- the new file's number and the slot of its name, if there are both
abbrev pub new_dirent : Option ℕ → Option ℕ → Option DirentValue
new_dirent (Some number) (Some slot) = Some (record { number = number; slot = slot })
new_dirent None slot = None
new_dirent (Some number) None = None

-- what is told of a file that was made or found
abbrev pub created : ℕ → Node → Created
created number node = record {
  object = Some (handle_of number node);
  attributes = Some (attributes_of number node);
}

-- a new file under its number, and its name in its directory
abbrev pub with_new : Tree → Ctx → ℕ → List ℕ → Node → DirentValue → Effect Created
with_new tree ctx at name node dirent = record {
  answer = created dirent.number node;
  next = with_node (changed_at tree at (entered ctx.moment name dirent node.body)) dirent.number node;
}

-- A new file, where its attributes may be set so, and there are a number, a slot and the blocks for it.
abbrev pub make : Tree → Ctx → Option ℕ → ℕ → Node → List ℕ → NewAttributes → Node
    → Result (Effect Created) Status
make tree ctx number at directory name wanted node =
    unless (refusal ctx wanted None node)
    (if_dirent tree (new_dirent number (least_free_slot directory.body))
    (with_new tree ctx at name (made ctx wanted node)))
