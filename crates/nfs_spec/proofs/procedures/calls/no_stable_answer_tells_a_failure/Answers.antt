use Rattle.std.proofs.Common.{◌≡◌, true, false, sym, ◌∙◌, refl}
use Rattle.nfs_types.specs.declared.call.Call.{Call}
use Rattle.nfs_types.specs.declared.ctx.Ctx.{Ctx}
use Rattle.nfs_types.specs.declared.status.Status.{Status}
use Rattle.nfs_types.specs.declared.status.Status.TheVariants as status
use Rattle.nfs_spec.specs.Model.Calls.{is_answered_stable}
use Rattle.nfs_spec.specs.Model.Refused.{refused}
use Rattle.nfs_spec.specs.Model.Tree.{Tree}
use Rattle.nfs_spec.specs.Procedures.Kinds.{is_failure}
use Rattle.nfs_spec.specs.Procedures.Step.{step}
use Rattle.nfs_spec.proofs.ProceduresLemmas.Failures.{no_failure, stable_tells_failure}
use Rattle.nfs_spec.proofs.procedures.calls.no_stable_answer_tells_a_failure.Goals as goal

never : (failure : Status) (tree next : Tree) (ctx : Ctx) (asked : Call) → is_failure failure ≡ true
    → is_answered_stable asked ≡ true → step tree ctx asked (refused failure asked) next → ⊥
never failure tree next ctx asked fails stable steps =
    let no : true ≡ false = sym (stable_tells_failure failure asked fails stable)
    ∙ no_failure tree next ctx steps.new asked (refused failure asked) steps.leads in
    cc

pub returns : goal.returns
returns c = record {
  io = λ tree next ctx asked stable steps. never status.Io tree next ctx asked refl stable steps;
  server_fault = λ tree next ctx asked stable steps. never status.ServerFault tree next ctx asked
      refl stable steps;
}
