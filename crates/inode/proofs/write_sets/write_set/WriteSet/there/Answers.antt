use Rattle.std.proofs.Common.{subst}
use Rattle.inode.specs.Over.{MaySuspend}
use Rattle.inode.specs.WriteSets.WriteSetContents.{WriteSetContents}
use Rattle.inode.proofs.WriteSetsLemmas.Stops.{stops_before}
use Rattle.inode.proofs.write_sets.write_set.WriteSet.there.Goals as goal

pub returns-clause-stops : goal.returns-clause-stops
returns-clause-stops c = λ why may.
    subst (λ (d : WriteSetContents). MaySuspend d.seen why) c.self.view_is
    (stops_before c.self.inside.seen.now c.self.inside.there c.self.invariant.after why may)
