use Rattle.std.proofs.Common.{◌∙◌, ◌<◌, ◌≤◌, ℕ, rules, ltb, subst}
use Rattle.std.proofs.lemmas.List.Sorted.{IsPartitionPoint-from_clause, IsPartitionedBy-ltb}
use Rattle.store_promise.specs.LockRequests.{rank_of}
use Rattle.store_workers.proofs.Halved.{IsHalf, none, not_falling, there}
use Rattle.store_workers.proofs.workers.known.position_from.Goals as goal

pub returns-then-index-len : goal.returns-then-index-len
returns-then-index-len c =
    let point : IsHalf c.args.rank c.args.lock_requests.now.items c.partition_point-index.result =
    IsPartitionPoint-from_clause (λ y. ltb (rank_of y) c.args.rank) _ _ c.partition_point-index.ensures.partitioned
    (IsPartitionedBy-ltb rank_of _ c.args.rank (not_falling c.args.lock_requests.now.items c.requires)) (λ a r q k. search rules) in
    let long = c.args.lock_requests.now.ok.0 in
    there c.args.rank c.args.lock_requests.now.items c.partition_point-index.result
    (subst (λ (n : ℕ). c.partition_point-index.result ≤ n) long c.partition_point-index.ensures.bound) point
    (subst (λ (n : ℕ). c.partition_point-index.result < n) (c.len.ensures ∙ long) c.if-index-len.true)

pub returns-else-index-len : goal.returns-else-index-len
returns-else-index-len c =
    let point : IsHalf c.args.rank c.args.lock_requests.now.items c.partition_point-index.result =
    IsPartitionPoint-from_clause (λ y. ltb (rank_of y) c.args.rank) _ _ c.partition_point-index.ensures.partitioned
    (IsPartitionedBy-ltb rank_of _ c.args.rank (not_falling c.args.lock_requests.now.items c.requires)) (λ a r q k. search rules) in
    let long = c.args.lock_requests.now.ok.0 in
    none c.args.rank c.args.lock_requests.now.items c.partition_point-index.result
    (subst (λ (n : ℕ). c.partition_point-index.result ≤ n) long c.partition_point-index.ensures.bound) point
    (subst (λ (n : ℕ). n ≤ c.partition_point-index.result) (c.len.ensures ∙ long) c.if-index-len.false)
