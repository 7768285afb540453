use Rattle.inode.proofs.HadExclusive.{same_seen}
use Rattle.procs.proofs.KnownNames.{same_by}
use Rattle.procs.proofs.planner.Planner.reserve_next.Goals as goal

pub invariant_of-self : goal.invariant_of-self
invariant_of-self c =
    let old = c.args.self.now in record {
      known = same_by old.snap c.reserve_next.new.self old.names c.reserve_next.ensures.geometry c.reserve_next.ensures.objects old.known;
      exclusives = same_seen _ _ _ _ c.reserve_next.ensures.exclusives c.reserve_next.ensures.objects old.exclusives;
    }
