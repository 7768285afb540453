use Rattle.store.proofs.RunsLemmas.AtWorkMay.{step_may}
use Rattle.store.proofs.runs.at_work.a_workers_step_may_be_made.Goals as goal

pub returns : goal.returns
returns c = λ o run_state number base store fetches boot first last entries run state_agrees idle inodes worker new.
    step_may o run_state number base store fetches boot first last entries run state_agrees idle inodes worker new
    c.counts_make_one_geometry.ensures
