use Rattle.store_promise.proofs.OpenCommits.{transition, open_with}
use Rattle.store_promise.proofs.open_steps.a_commit_leaves_the_store_open.Goals as goal

pub returns : goal.returns
returns c =
    λ base d old new logging installing boot first last entries tx place plan entry since took sound tells.
    let one_geometry = c.counts_make_one_geometry.ensures in
    let next = transition base d old new logging installing boot first last entries tx place plan since
    took entry tells
    one_geometry in (
      next.0,
      next.1,
      open_with base d old new logging installing boot first last entries tx place plan since took entry tells
          one_geometry sound (c.no_step_makes_a_later_stamp.ensures boot)
          (c.steps_keep_what_may_be_read.ensures.append d old.log new.log took.group.group installing
          took.group.seen since.over.readable),
    )
