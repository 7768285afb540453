use Rattle.std.proofs.Common.{[]}
use Rattle.layout.specs.Fresh.{fresh}
use Rattle.store_law.proofs.LivesLemmas.Held.{at_first, least, least_lawful, may_run, no_events, start}
use Rattle.store_law.proofs.lives.still.a_fresh_image_can_be_held.Goals as goal

pub returns-clause-each : goal.returns-clause-each
returns-clause-each c g moment events lawful now sound =
    may_run g moment (fresh g moment) events lawful (c.there_is_a_fresh_image.ensures g moment lawful) sound
    (λ left is. c.a_fresh_image_is_good.ensures g moment left lawful now is)

pub returns-clause-one : goal.returns-clause-one
returns-clause-one c = (
  least,
  start,
  may_run least start (fresh least start) [] least_lawful
      (c.there_is_a_fresh_image.ensures least start least_lawful) no_events
      (λ left is. c.a_fresh_image_is_good.ensures least start left least_lawful at_first is),
)
