use Rattle.store.proofs.RunsLemmas.AtWorkFetched.{after_given, after_held, after_wanted, wanted_taken}
use Rattle.store.proofs.runs.at_work.what_was_fetched_stays.Goals as goal

pub returns-clause-held : goal.returns-clause-held
returns-clause-held c = λ old new tx fetched addr mode bytes held.
    after_held old new tx fetched addr mode bytes held

pub returns-clause-wanted : goal.returns-clause-wanted
returns-clause-wanted c = λ old new tx fetched addr mode io asked loaded. (
  after_wanted old new tx fetched addr mode io asked loaded,
  wanted_taken old new tx fetched addr mode io asked,
)

pub returns-clause-given : goal.returns-clause-given
returns-clause-given c = λ old new tx fetched addr io taken block pending leaves.
    after_given old new tx fetched addr io taken block pending leaves
