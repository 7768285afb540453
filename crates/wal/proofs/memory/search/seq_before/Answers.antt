use Rattle.std.proofs.Common.{arith, sym, ◌∙◌}
use Rattle.circ.proofs.LogLemmas.Newest.{place_before-drop, place_before-all}
use Rattle.wal.proofs.memory.search.seq_before.Goals as goal

pub returns-then-index-len : goal.returns-then-index-len
returns-then-index-len c =
    sym (place_before-all c.args.changes.now.items c.args.index c.args.places (omega arith))

pub returns : goal.returns
returns c = c.saturating_sub.ensures
    ∙ sym (place_before-drop c.args.changes.now.items c.args.index c.args.places c.index-change.result.now
    (omega arith) c.index-change.ensures)
