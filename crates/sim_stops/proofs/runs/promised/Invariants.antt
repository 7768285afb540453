use Rattle.std.proofs.Common.{◌≡◌, drop}
use Rattle.sim_stops.specs.Promised.{promised_from, promised_of}
use Rattle.sim_stops.proofs.runs.promised.Given as goal

abbrev pub invariant-answers : goal.invariant-answers
invariant-answers l = promised_of l.run.history.items l.run.answers.items
    ≡ promised_from l.least l.run.history.items (drop l.answer-index l.run.answers.items)
