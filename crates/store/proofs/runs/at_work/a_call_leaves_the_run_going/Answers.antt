use Rattle.store.proofs.RunsLemmas.AtWorkEvents.{call_core, call_fetches, call_agrees}
use Rattle.store.proofs.runs.at_work.a_call_leaves_the_run_going.Goals as goal

pub returns-clause-core : goal.returns-clause-core
returns-clause-core c = call_core

pub returns-clause-state_stays_so : goal.returns-clause-state_stays_so
returns-clause-state_stays_so c = call_agrees

pub returns-clause-fetches : goal.returns-clause-fetches
returns-clause-fetches c = call_fetches
