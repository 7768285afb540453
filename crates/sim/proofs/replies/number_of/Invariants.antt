use Rattle.std.proofs.Common.{◌≡◌, drop}
use Rattle.sim.specs.Replies.{number_after, number_of}
use Rattle.sim.proofs.replies.number_of.Given as goal

abbrev pub invariant-handed : goal.invariant-handed
invariant-handed l = number_of l.handed l.run.steps.items l.answer
    ≡ number_after l.xid (drop l.message-index l.handed) l.run.steps.items l.answer
