use Rattle.std.proofs.Common.{ap, sym, subst, ◌∙◌, ◌<◌}
use Rattle.std.specs.Prelude.{IfSome}
use Rattle.store_workers.specs.WorkerSteps.{worker_and_core}
use Rattle.store_workers.specs.declared.workers.parts.State.{State}
use Rattle.store.proofs.RunsLemmas.RunTaken.{goes_with}
use Rattle.store.proofs.RunsLemmas.StaysWithin.{stays_within}
use Rattle.store.proofs.runs.runs.run_events.work_of.Goals as goal

pub returns-clause-core : goal.returns-clause-core
returns-clause-core c =
    let begun_is = ap (λ (s : State). s.begun.tx) c.tell.ensures.worker in
    record {
      home = c.step_traced-step.ensures.home;
      reads = λ tx stays. c.step_traced-step.ensures.stays tx (λ at. sym begun_is ∙ stays at);
      lawful = c.lawful.ensures.log;
      well_formed = c.lawful.ensures.well_formed;
      with = λ went. goes_with c.tell.new.one c.step_traced-step.new.core
          (c.tell.ensures.fits c.step_traced-step.new.core (c.step_traced-step.ensures.fits went.core_of));
    }

pub returns-clause-reads : goal.returns-clause-reads
returns-clause-reads c = λ within.
    subst (λ (s : State). IfSome s.begun.io (λ io. io.block.0 < c.args.core.now.log.blocks))
    (sym c.tell.ensures.worker)
    (stays_within (worker_and_core c.args.one.now.state c.args.core.now) (worker_and_core c.step_traced-step.new.self.state c.step_traced-step.new.core)
    c.step_traced-step.result.0 c.step_traced-step.ensures.step within)
