use Rattle.std.proofs.Math.Logic.{∥∥₁_map}
use Rattle.store_workers.specs.WorkerSteps.{worker_and_core}
use Rattle.store_workers.proofs.StillAsked.{still_asked}
use Rattle.store_workers.proofs.StillFits.{still_fits}
use Rattle.store_workers.proofs.workers.Worker.make.Goals as goal

pub invariant_of-self-clause-asked : goal.invariant_of-self-clause-asked
invariant_of-self-clause-asked c = ∥∥₁_map c.args.self.now.asked (λ asked.
    still_asked (worker_and_core c.args.self.now.state c.args.core.now) (worker_and_core c.step.new.self c.step.new.core) asked
    c.args.self.now.state.phase c.step.result c.step.ensures.step)

pub returns-clause-fits : goal.returns-clause-fits
returns-clause-fits c = λ fits. still_fits (worker_and_core c.args.self.now.state c.args.core.now)
    (worker_and_core c.step.new.self c.step.new.core) c.step.ensures.frame fits c.args.self.now.state.phase c.step.result
    c.step.ensures.step
