use Rattle.store_workers.proofs.StepTells.{step_tells}
use Rattle.store_workers.proofs.workers.run_reports.a_worker_tells_its_steps.Goals as goal

pub returns : goal.returns
returns c = λ boot number entries old new made at booted places goes.
    step_tells boot number entries old new at booted
    places made goes
