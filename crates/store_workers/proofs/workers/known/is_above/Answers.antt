use Rattle.std.proofs.Common.{◌∙◌, ◌-◌, ◌<◌, ap, subst, ℕ, arith}
use Rattle.store_promise.specs.LockRequests.{rank_of}
use Rattle.store_workers.proofs.Above.{above_last, above_none, is_less}
use Rattle.store_workers.proofs.workers.known.is_above.Goals as goal

pub returns-then-len-eq0 : goal.returns-then-len-eq0
returns-then-len-eq0 c = λ is.
    above_none c.args.one c.args.lock_requests.now.items (omega (arith, c.len.ensures, c.if-len-eq0.true))

pub returns : goal.returns
returns c = λ is.
    above_last c.args.one c.args.lock_requests.now.items (c.len-2.result - 1) c.index.result.now c.requires
    (omega (arith, c.len.ensures, c.len-2.ensures, c.if-len-eq0.false))
    (subst (λ (n : ℕ). n < rank_of c.args.one) (c.rank.ensures ∙ ap rank_of c.index.ensures)
    (subst (λ (n : ℕ). c.rank.result < n) c.rank-2.ensures (is_less c.rank.result c.rank-2.result is)))
