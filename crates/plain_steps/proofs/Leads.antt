-- What the files come to is a step of the sequential server.
use Rattle.std.proofs.Common.{◌≡◌, ℕ, subst, sym, Option}
use Rattle.nfs_types.specs.Fits.{CallFits}
use Rattle.nfs_types.specs.declared.call.Call.{Call}
use Rattle.nfs_types.specs.declared.ctx.Ctx.{Ctx}
use Rattle.nfs_types.specs.declared.reply.Reply.{Reply}
use Rattle.nfs_spec.specs.Model.Sound.{Sound, SoundCtx}
use Rattle.nfs_spec.specs.Model.Tree.{Tree}
use Rattle.nfs_spec.specs.Procedures.Step.{step, numbered_step}
use Rattle.nfs_spec.proofs.ProceduresLemmas.Numbers.{new_number}
use Rattle.procs_dispatch.specs.Leads.{IsStepTo}

-- a copy of the tree was changed
pub changed : (tree copy after : Tree) (ctx : Ctx) (asked : Call) (reply : Reply) → copy ≡ tree
    → ((stood : Tree) → copy ≡ stood → Sound stood → SoundCtx ctx → CallFits asked
    → IsStepTo (λ next. after ≡ next) stood ctx asked reply)
    → Sound tree → SoundCtx ctx → CallFits asked → step tree ctx asked reply after
changed tree copy after ctx asked reply same leads sound at fits =
    let to = leads tree same sound at fits in
    subst (λ next. step tree ctx asked reply next) (sym to.leads) to.steps

-- something was told, whatever number a new file would get
pub unchanged : (tree after : Tree) (ctx : Ctx) (asked : Call) (reply : Reply) → after ≡ tree
    → ((new : Option ℕ) → numbered_step tree ctx new asked reply tree) → step tree ctx asked reply after
unchanged tree after ctx asked reply same leads =
    let number = new_number tree in
    subst (λ next. step tree ctx asked reply next) (sym same)
    (record { new = number.new; is_new = number.is; leads = leads number.new })
