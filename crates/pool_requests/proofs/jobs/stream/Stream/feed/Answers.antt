use Rattle.std.proofs.Common.{rules, take}
use Rattle.pool_requests.specs.Jobs.Stream.{records_of}
use Rattle.pool_requests.specs.declared.jobs.stream.Piece.{Piece}
use Rattle.pool_requests.proofs.JobsLemmas.Cuts.{fed}
use Rattle.pool_requests.proofs.jobs.stream.Stream.feed.Goals as goal

pub invariant_of-self-2 : goal.invariant_of-self-2
invariant_of-self-2 c =
    fed (λ (one : Piece × Unit {0}). take one.0.count.value one.0.buffer.value.items) c.self.inside.came.items
    c.and-self-inside.result.items _ (records_of c.self.inside.received.items) c.self.inside.records c.feed.new.self _
    c.self.invariant c.and-self-inside.ensures c.in_ok-feed.ensures.ok (search rules)
