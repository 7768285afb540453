-- Steps of the sequential server: each call has one, and GETATTR and SETATTR are steps with any number, as they
-- make no file.
use Rattle.std.proofs.Common.{◌≢◌, Option, Result}
use Rattle.nfs_types.specs.declared.attributes.Attributes.{Attributes}
use Rattle.nfs_types.specs.declared.attributes.NewAttributes.{NewAttributes}
use Rattle.nfs_types.specs.declared.attributes.WeakCacheData.{WeakCacheData}
use Rattle.nfs_types.specs.declared.call.Call.{Call}
use Rattle.nfs_types.specs.declared.call.Call.TheVariants as call
use Rattle.nfs_types.specs.declared.ctx.Ctx.{Ctx}
use Rattle.nfs_types.specs.declared.ctx.Moment.{Moment}
use Rattle.nfs_types.specs.declared.handle.Handle.{Handle}
use Rattle.nfs_types.specs.declared.reply.Reply.{Reply}
use Rattle.nfs_types.specs.declared.reply.Reply.TheVariants as reply
use Rattle.nfs_types.specs.declared.status.Status.{Status}
use Rattle.nfs_spec.specs.Model.GetAttr.{GetAttrStep}
use Rattle.nfs_spec.specs.Model.SetAttr.{SetAttrStep}
use Rattle.nfs_spec.specs.Model.Tree.{Tree}
use Rattle.nfs_spec.specs.Procedures.Step.{step}
use Rattle.nfs_spec.proofs.ProceduresLemmas.Answer.{answer, answered}
use Rattle.nfs_spec.proofs.ProceduresLemmas.Numbers.{new_number}

pub getattr_is_step : (tree next : Tree) (ctx : Ctx) (object : Handle) (outcome : Result Attributes Status)
    → GetAttrStep tree object.bytes outcome next
    → step tree ctx (call.GetAttr object) (reply.GetAttr outcome) next
getattr_is_step tree next ctx object outcome leads =
    let number = new_number tree in
    record { new = number.new; is_new = number.is; leads = leads }

pub setattr_is_step : (tree next : Tree) (ctx : Ctx) (object : Handle) (wanted : NewAttributes)
    (guard : Option Moment) (outcome : Result (Unit {0}) Status) (file_attributes : WeakCacheData)
    → SetAttrStep tree ctx object.bytes wanted guard outcome file_attributes next
    → step tree ctx (call.SetAttr object wanted guard) (reply.SetAttr outcome file_attributes) next
setattr_is_step tree next ctx object wanted guard outcome file_attributes leads =
    let number = new_number tree in
    record { new = number.new; is_new = number.is; leads = leads }

-- NULL alone has none
pub some_step : (tree : Tree) (ctx : Ctx) (asked : Call) → asked ≢ call.Null
    → (given : Reply) × (next : Tree) × step tree ctx asked given next
some_step tree ctx asked some =
    let number = new_number tree in
    let given = answer tree ctx number.new asked in (
      given.0,
      given.1,
      record { new = number.new; is_new = number.is; leads = answered tree ctx number.new asked some },
    )
