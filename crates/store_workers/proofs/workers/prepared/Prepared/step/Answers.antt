use Rattle.std.proofs.Common.{subst}
use Rattle.store_workers.specs.WorkerSteps.{PreservesReadsOf, worker_and_core}
use Rattle.store_workers.specs.declared.workers.parts.State.{State}
use Rattle.store_workers.proofs.workers.prepared.Prepared.step.Goals as goal

pub returns-clause-stays : goal.returns-clause-stays
returns-clause-stays c = subst (λ (state : State). PreservesReadsOf (worker_and_core state c.args.core.now)
    (worker_and_core c.step.new.self c.step.new.core)) c.self.view_is c.step.ensures.stays
