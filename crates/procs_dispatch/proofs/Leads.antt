-- What a procedure does is a step, with a number for a new file.
use Rattle.std.proofs.Common.{ℕ, Option}
use Rattle.nfs_types.specs.declared.call.Call.{Call}
use Rattle.nfs_types.specs.declared.ctx.Ctx.{Ctx}
use Rattle.nfs_types.specs.declared.reply.Reply.{Reply}
use Rattle.nfs_spec.specs.Model.Tree.{Tree}
use Rattle.nfs_spec.specs.Procedures.Fresh.{IsNewNumber}
use Rattle.nfs_spec.specs.Procedures.Step.{numbered_step}
use Rattle.nfs_spec.proofs.ProceduresLemmas.Numbers.{new_number}
use Rattle.procs_dispatch.specs.Leads.{IsStepTo}

-- a call that makes no file may have any number for one
pub leads_on : (stands : Tree → Type 0) (tree : Tree) (ctx : Ctx) (asked : Call) (reply : Reply)
    → ((new : Option ℕ) → (next : Tree) × numbered_step tree ctx new asked reply next × stands next)
    → IsStepTo stands tree ctx asked reply
leads_on stands tree ctx asked reply leads =
    let number = new_number tree in
    let is = leads number.new in
    record {
      next = is.0;
      steps = record { new = number.new; is_new = number.is; leads = is.1 };
      leads = is.2;
    }

pub makes : (stands : Tree → Type 0) (tree : Tree) (ctx : Ctx) (asked : Call) (reply : Reply)
    → ((new : Option ℕ) × IsNewNumber tree new × (next : Tree)
    × numbered_step tree ctx new asked reply next × stands next)
    → IsStepTo stands tree ctx asked reply
makes stands tree ctx asked reply is = record {
  next = is.2;
  steps = record { new = is.0; is_new = is.1; leads = is.3 };
  leads = is.4;
}
