-- The sequential server, over all procedures (RFC 1813, section 3.3): which replies it may give to a call, and
-- which tree it then has.
use Rattle.std.specs.Prelude.{ℕ, Option}
use Rattle.nfs_types.specs.declared.call.Call.{Call}
use Rattle.nfs_types.specs.declared.call.Call.TheVariants as call
use Rattle.nfs_types.specs.declared.ctx.Ctx.{Ctx}
use Rattle.nfs_types.specs.declared.reply.Reply.{Reply}
use Rattle.nfs_types.specs.declared.reply.Reply.TheVariants as reply
use Rattle.nfs_spec.specs.Model.GetAttr.{GetAttrStep}
use Rattle.nfs_spec.specs.Model.SetAttr.{SetAttrStep}
use Rattle.nfs_spec.specs.Model.Tree.{Tree}
use Rattle.nfs_spec.specs.Procedures.Access.{AccessStep}
use Rattle.nfs_spec.specs.Procedures.Commit.{CommitStep}
use Rattle.nfs_spec.specs.Procedures.Create.{CreateStep}
use Rattle.nfs_spec.specs.Procedures.Fresh.{IsNewNumber}
use Rattle.nfs_spec.specs.Procedures.FsInfo.{FsInfoStep}
use Rattle.nfs_spec.specs.Procedures.FsStat.{FsStatStep}
use Rattle.nfs_spec.specs.Procedures.Link.{LinkStep}
use Rattle.nfs_spec.specs.Procedures.Lookup.{LookupStep}
use Rattle.nfs_spec.specs.Procedures.MkDir.{MkDirStep}
use Rattle.nfs_spec.specs.Procedures.MkNod.{MkNodStep}
use Rattle.nfs_spec.specs.Procedures.PathConf.{PathConfStep}
use Rattle.nfs_spec.specs.Procedures.Read.{ReadStep}
use Rattle.nfs_spec.specs.Procedures.ReadDir.{ReadDirStep}
use Rattle.nfs_spec.specs.Procedures.ReadDirPlus.{ReadDirPlusStep}
use Rattle.nfs_spec.specs.Procedures.ReadLink.{ReadLinkStep}
use Rattle.nfs_spec.specs.Procedures.Remove.{RemoveStep}
use Rattle.nfs_spec.specs.Procedures.Rename.{RenameStep}
use Rattle.nfs_spec.specs.Procedures.RmDir.{RmDirStep}
use Rattle.nfs_spec.specs.Procedures.SymLink.{SymLinkStep}
use Rattle.nfs_spec.specs.Procedures.Write.{WriteStep}

-- What a call may answer and lead to, where a new file would get this number. A call gets the reply of its own
-- procedure and no other.
abbrev pub numbered_step : Tree → Ctx → Option ℕ → Call → Reply → Tree → Type 0
numbered_step tree ctx new (call.GetAttr object) (reply.GetAttr outcome) next =
    GetAttrStep tree object.bytes outcome next
numbered_step tree ctx new (call.SetAttr object wanted guard) (reply.SetAttr outcome file_attributes) next =
    SetAttrStep tree ctx object.bytes wanted guard outcome file_attributes next
numbered_step tree ctx new (call.Lookup name) (reply.Lookup outcome file_attributes) next =
    LookupStep tree ctx name.directory.bytes name.name outcome file_attributes next
numbered_step tree ctx new (call.Access object bits) (reply.Access outcome file_attributes) next =
    AccessStep tree ctx object.bytes bits outcome file_attributes next
numbered_step tree ctx new (call.ReadLink link) (reply.ReadLink outcome file_attributes) next =
    ReadLinkStep tree link.bytes outcome file_attributes next
numbered_step tree ctx new (call.Read file offset count) (reply.Read outcome file_attributes) next =
    ReadStep tree ctx file.bytes offset count outcome file_attributes next
numbered_step tree ctx new (call.Write file offset count stability text) (reply.Write outcome file_attributes) next =
    WriteStep tree ctx file.bytes offset count stability text outcome file_attributes next
numbered_step tree ctx new (call.Create name how) (reply.Create outcome file_attributes) next =
    CreateStep tree ctx name.directory.bytes name.name how new outcome file_attributes next
numbered_step tree ctx new (call.MkDir name wanted) (reply.MkDir outcome file_attributes) next =
    MkDirStep tree ctx name.directory.bytes name.name wanted new outcome file_attributes next
numbered_step tree ctx new (call.SymLink name wanted target) (reply.SymLink outcome file_attributes) next =
    SymLinkStep tree ctx name.directory.bytes name.name wanted target new outcome file_attributes next
numbered_step tree ctx new (call.MkNod name special) (reply.MkNod outcome file_attributes) next =
    MkNodStep tree name.directory.bytes outcome file_attributes next
numbered_step tree ctx new (call.Remove name) (reply.Remove outcome file_attributes) next =
    RemoveStep tree ctx name.directory.bytes name.name outcome file_attributes next
numbered_step tree ctx new (call.RmDir name) (reply.RmDir outcome file_attributes) next =
    RmDirStep tree ctx name.directory.bytes name.name outcome file_attributes next
numbered_step tree ctx new (call.Rename source target) (reply.Rename outcome file_attributes tells) next =
    RenameStep tree ctx source.directory.bytes source.name target.directory.bytes target.name outcome file_attributes
    tells next
numbered_step tree ctx new (call.Link file name) (reply.Link outcome file_attributes tells) next =
    LinkStep tree ctx file.bytes name.directory.bytes name.name outcome file_attributes tells next
numbered_step tree ctx new (call.ReadDir directory cookie verifier count) (reply.ReadDir outcome file_attributes) next =
    ReadDirStep tree ctx directory.bytes cookie verifier count outcome file_attributes next
numbered_step tree ctx new (call.ReadDirPlus directory cookie verifier names_count count)
    (reply.ReadDirPlus outcome file_attributes) next =
    ReadDirPlusStep tree ctx directory.bytes cookie verifier names_count count outcome file_attributes next
numbered_step tree ctx new (call.FsStat object) (reply.FsStat outcome file_attributes) next =
    FsStatStep tree object.bytes outcome file_attributes next
numbered_step tree ctx new (call.FsInfo object) (reply.FsInfo outcome file_attributes) next =
    FsInfoStep tree object.bytes outcome file_attributes next
numbered_step tree ctx new (call.PathConf object) (reply.PathConf outcome file_attributes) next =
    PathConfStep tree object.bytes outcome file_attributes next
numbered_step tree ctx new (call.Commit file offset count) (reply.Commit outcome file_attributes) next =
    CommitStep tree ctx file.bytes outcome file_attributes next
numbered_step tree ctx new _ _ next = ⊥

-- From a tree, a call in this context may get this reply and lead to the next tree. A new file may get any
-- unused number.
pub record step (tree : Tree) (ctx : Ctx) (asked : Call) (reply : Reply) (next : Tree) : Type 0 where
  pub new : Option ℕ
  pub is_new : IsNewNumber tree new
  pub leads : numbered_step tree ctx new asked reply next
