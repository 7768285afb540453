use Rattle.std.proofs.Common.{◌<◌, length, arith}
use Rattle.locks.proofs.IndexLemmas.{numbers-at, numbers-length}
use Rattle.locks.proofs.index.Index.track_from.Goals as goal

pub track-requires-clause-homed : goal.track-requires-clause-homed
track-requires-clause-homed c =
    let lt : c.loop-i.i < length c.args.holds.now = omega arith in
    let size = numbers-length c.args.holds.now in
    let home = c.requires.homed c.loop-i.i (omega (arith, lt, size)) in
    let at = numbers-at c.args.holds.now c.loop-i.i c.index-holds-i.result lt in
    let long = c.loop-i.invariant.long in
    omega (arith, home, at, long)
