use Rattle.procs.proofs.restarted.plan.Goals as goal

pub run-requires-clause-known : goal.run-requires-clause-known
run-requires-clause-known c = c.go_on.ensures.known (c.in-Ok.ensures.known c.args.snap.now)
