-- The port made the call.
use Rattle.wal_calls.proofs.SeatsLemmas.Made.{makes_call}
use Rattle.wal_calls.proofs.seats.steps.make_call.Goals as goal

pub returns-clause-made : goal.returns-clause-made
returns-clause-made g c =
    makes_call c.args.seat.now.caller.io c.args.seat.now.caller.made c.make_on.new.self.made c.make_on.result
    (g.P.Port.calls c.args.seat.now.port) (g.P.Port.calls c.make_on.new.port) c.make_on.ensures.made
