use Rattle.std.proofs.Common.{◌≡◌, ◌⊎◌, [], subst}
use Rattle.rpc.specs.Records.{HasBegun}
use Rattle.pool_requests.specs.Jobs.Stream.{CutStream}
use Rattle.pool_requests.proofs.JobsLemmas.Cuts.{gave}
use Rattle.pool_requests.proofs.jobs.stream.Stream.next.Goals as goal

pub invariant_of-self-in-Some : goal.invariant_of-self-in-Some
invariant_of-self-in-Some c =
    gave _ c.self.inside.received.items c.and-self-inside.result.items c.in-Some.message c.self.inside.records
    c.next.new.self c.self.invariant c.and-self-inside.ensures (rw c.in-Some.is at c.in_ok-next.ensures.found)

pub invariant_of-self-in-Some-2 : goal.invariant_of-self-in-Some-2
invariant_of-self-in-Some-2 c =
    gave _ c.self.inside.received.items c.and-self-inside.result.items c.in-Some.message c.self.inside.records
    c.next.new.self c.self.invariant c.and-self-inside.ensures (rw c.in-Some.is at c.in_ok-next.ensures.found)

pub returns-in-None-clause-begun : goal.returns-in-None-clause-begun
returns-in-None-clause-begun c =
    subst (λ (s : CutStream). (s.left ≡ []) ⊎ HasBegun s.left) c.self.view_is
    (rw c.in-None.is at c.in_ok-next.ensures.begun)
