use Rattle.store_workers.proofs.Traced.{work_traced}
use Rattle.store_workers.proofs.workers.run_reports.a_run_traces_its_workers_steps.Goals as goal

pub returns : goal.returns
returns c = λ boot number clock old new made before after at booted places has.
    work_traced boot number clock old made new before after at booted places has
