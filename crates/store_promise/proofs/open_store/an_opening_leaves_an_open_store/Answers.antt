-- What a stop leaves at its end has its tree, and the blocks at home under no log.
use Rattle.std.proofs.Common.{arith}
use Rattle.store_promise.proofs.Opened.{is_open}
use Rattle.store_promise.proofs.open_store.an_opening_leaves_an_open_store.Goals as goal

pub returns : goal.returns
returns c = λ before opened base core tree first position opens new.
    let left = opens.left opened.clock opens.past.clock (omega arith) in
    is_open before opened base core tree first position opens new left.0 (opens.settled left.0 left.1)
    (c.a_crash_leaves_whole_groups.ensures opened base core.log left.0 new.lawful new.agrees.agrees left.1)
