use Rattle.store.proofs.RunsLemmas.AtWorkEvents.{read_core, read_runs}
use Rattle.store.proofs.runs.at_work.a_read_leaves_the_run_going.Goals as goal

pub returns-clause-core : goal.returns-clause-core
returns-clause-core c = read_core

pub returns-clause-state_stays_so : goal.returns-clause-state_stays_so
returns-clause-state_stays_so c = λ o run_state number store after block ok is. record {
  log = is.log;
  begun = is.begun;
  refused = is.refused;
}

pub returns-clause-runs : goal.returns-clause-runs
returns-clause-runs c = λ o base store after ok io content old boot first last entries read brings contents run.
    read_runs o base store after ok io content old boot first last entries brings contents run
    (c.a_read_leaves_the_store_open.ensures base store.device after store.core store.logging
    store.installing boot first
    last entries run.since read)
