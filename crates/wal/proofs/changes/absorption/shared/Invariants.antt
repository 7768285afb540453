-- those so far are shared, in their order
use Rattle.std.proofs.Common.{◌≡◌, ◌++◌}
use Rattle.std.specs.Vec.Iter.{into_iter_items}
use Rattle.wal.proofs.changes.absorption.shared.Given as goal

abbrev pub invariant-loop-block : goal.invariant-loop-block
invariant-loop-block l =
    (l.fn.group.items ≡ l.yielded ++ into_iter_items l.block-iterator) × (l.shared.items ≡ l.yielded)
