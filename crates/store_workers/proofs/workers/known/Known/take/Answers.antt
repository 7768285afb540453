use Rattle.std.proofs.Common.{None, ◌∙◌, ◌<◌, false, sym, ap, subst, length, arith, rules}
use Rattle.store_workers.specs.Knowing.{IsNextOf, with_lock_request}
use Rattle.store_workers.proofs.Placing.{next_taken}
use Rattle.store_workers.proofs.workers.known.Known.take.Goals as goal

pub returns-then-self-len : goal.returns-then-self-len
returns-then-self-len c =
    let within : c.self.inside.taken < length c.self.inside.lock_requests.items = search (rules, arith) in
    let both = next_taken c.self.inside.lock_requests.items c.self.inside.taken c.args.one c.self.invariant.1 within
    (subst (λ k. IsNextOf c.args.one k.left) (sym c.self.view_is) c.requires.next) in
    (λ i. record { taken = both.0 i; left = both.1 i; off = None; has_space = false })
    ∙ ap (λ k. with_lock_request c.args.one k) c.self.view_is
