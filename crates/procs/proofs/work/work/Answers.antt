use Rattle.layout.proofs.Holding.{holds_of}
use Rattle.procs.proofs.work.work.Goals as goal

pub returns-then-is_refused-clause-io : goal.returns-then-is_refused-clause-io
returns-then-is_refused-clause-io c = λ blocks tree sound stands saw.
    let snap = c.args.snap.now in
    c.what_is_refused_is_in_no_tree.ensures snap blocks tree saw (holds_of snap.geometry blocks tree stands)
    (c.is_refused.ensures.some c.if-is_refused.true blocks (record {
      saw = saw;
      whole = λ number less. (stands.bytes number less).0;
    }))

pub returns-else-is_refused-clause-sound : goal.returns-else-is_refused-clause-sound
returns-else-is_refused-clause-sound c =
    let nothing = c.is_refused.ensures.none c.if-is_refused.false in (c.in-Ok.ensures.sound nothing, nothing)
