use Rattle.std.proofs.Common.{rules, ◌≡◌, ◌∙◌, ℕ, Some, ap, sym}
use Rattle.procs.specs.declared.next.Plan.TheVariants as plan
use Rattle.store_workers.proofs.EndStays.{end_stays}
use Rattle.store_workers.specs.WorkerSteps.{worker_and_core}
use Rattle.store_workers.proofs.workers.parts.State.go_by_plan.Goals as goal

pub returns-in-Done-clause-step : goal.returns-in-Done-clause-step
returns-in-Done-clause-step c = record {
  tx = c.take_tx-tx.result;
  tx_is = search rules;
  none = search rules;
  next = plan.Done c.in-Done.done;
  next_is = c.in-Done.ensures.next;
  goes = search rules;
}

pub returns-in-Done-clause-stays : goal.returns-in-Done-clause-stays
returns-in-Done-clause-stays c =
    let had : c.args.self.now.begun.tx ≡ Some c.take_tx-tx.result = search rules in
    λ other preserves. end_stays (worker_and_core (record c.next-next.new.self { begun = c.take_tx-tx.new.self }) c.args.core.now)
    (worker_and_core c.commit.new.self c.commit.new.core)
    c.take_tx-tx.result c.in-Done.done c.commit.ensures.stays other
    (λ same. preserves (had ∙ ap (λ (n : ℕ). Some n) (sym same))) c.commit.result c.commit.ensures.step
