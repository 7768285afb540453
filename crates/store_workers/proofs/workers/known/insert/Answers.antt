use Rattle.std.proofs.Common.{◌≡◌, ◌∙◌, sym, ap, subst, nat_le, Some, position, set}
use Rattle.std.proofs.lemmas.List.Quantifiers.{position-Some}
use Rattle.store_promise.specs.LockRequests.{Rises, upgraded_by, rank_of}
use Rattle.store_workers.proofs.Placing.{before, behind, same_at, test, there}
use Rattle.store_promise.proofs.RisingLockRequests.{still_rises}
use Rattle.store_workers.proofs.workers.known.insert.Goals as goal

pub returns-then-rank-clause-items : goal.returns-then-rank-clause-items
returns-then-rank-clause-items c =
    let found : position (test c.args.one) c.args.lock_requests.now.items ≡ Some c.in-Some.index =
    (λ i. position (λ other. nat_le (sym c.rank.ensures i) (rank_of other)) c.args.lock_requests.now.items)
    ∙ sym c.position_from.ensures ∙ c.in-Some.is in
    let at = position-Some (test c.args.one) c.args.lock_requests.now.items c.in-Some.index c.index.result.now found in
    ap (set c.args.lock_requests.now.items c.in-Some.index) (c.upgraded_by.ensures ∙ ap (upgraded_by c.args.one)
    (c.index-then-rank.ensures ∙ same_at c.args.lock_requests.now.items c.in-Some.index c.index-then-rank.result.now
    c.index.result.now at.0))
    ∙ sym (there c.args.one c.args.lock_requests.now.items c.in-Some.index c.index.result.now at.0 at.2
    (sym (ap rank_of c.index.ensures) ∙ sym c.rank-in-Some.ensures ∙ c.if-rank.true ∙ c.rank-in-Some-2.ensures))

pub returns-then-rank-clause-rise : goal.returns-then-rank-clause-rise
returns-then-rank-clause-rise c =
    subst Rises (sym (returns-then-rank-clause-items c)) (still_rises c.args.one c.args.lock_requests.now.items c.requires.rise)

pub returns-in-Ok-clause-items : goal.returns-in-Ok-clause-items
returns-in-Ok-clause-items c =
    let found : position (test c.args.one) c.args.lock_requests.now.items ≡ Some c.in-Some.index =
    (λ i. position (λ other. nat_le (sym c.rank.ensures i) (rank_of other)) c.args.lock_requests.now.items)
    ∙ sym c.position_from.ensures ∙ c.in-Some.is in
    let at = position-Some (test c.args.one) c.args.lock_requests.now.items c.in-Some.index c.index.result.now found in
    c.in-Ok.ensures.items ∙ sym (before c.args.one c.args.lock_requests.now.items c.in-Some.index c.index.result.now
    at.0 at.1 at.2 (λ same. c.if-rank.false (c.rank-in-Some.ensures ∙ ap rank_of c.index.ensures ∙ same
    ∙ sym c.rank-in-Some-2.ensures)))

pub returns-in-Ok-clause-rise : goal.returns-in-Ok-clause-rise
returns-in-Ok-clause-rise c =
    subst Rises (sym (returns-in-Ok-clause-items c)) (still_rises c.args.one c.args.lock_requests.now.items c.requires.rise)

pub returns-in-None-clause-items : goal.returns-in-None-clause-items
returns-in-None-clause-items c =
    c.push_back_reserved.ensures.items ∙ sym (behind c.args.one c.args.lock_requests.now.items
    ((λ i. position (λ other. nat_le (sym c.rank.ensures i) (rank_of other)) c.args.lock_requests.now.items)
    ∙ sym c.position_from.ensures ∙ c.in-None.is))

pub returns-in-None-clause-rise : goal.returns-in-None-clause-rise
returns-in-None-clause-rise c =
    subst Rises (sym (returns-in-None-clause-items c)) (still_rises c.args.one c.args.lock_requests.now.items c.requires.rise)
