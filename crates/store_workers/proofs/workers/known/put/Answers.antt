use Rattle.std.proofs.Common.{◌∙◌, sym, subst}
use Rattle.store_promise.specs.LockRequests.{Rises}
use Rattle.store_promise.proofs.RisingLockRequests.{still_rises}
use Rattle.store_workers.proofs.workers.known.put.Goals as goal

pub returns-then-is_above-clause-items : goal.returns-then-is_above-clause-items
returns-then-is_above-clause-items c = c.push_last.ensures ∙ sym (c.is_above.ensures c.if-is_above.true)

pub returns-then-is_above-clause-rise : goal.returns-then-is_above-clause-rise
returns-then-is_above-clause-rise c =
    subst Rises (sym (returns-then-is_above-clause-items c)) (still_rises c.args.one c.args.lock_requests.now.items c.requires.rise)
