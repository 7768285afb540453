use Rattle.inode.proofs.HadExclusive.{same_seen}
use Rattle.procs.proofs.KnownNames.{same_by}
use Rattle.procs.proofs.planner.Planner.claimed.Goals as goal

pub invariant_of-self : goal.invariant_of-self
invariant_of-self c =
    let old = c.args.self.now in record {
      known = same_by old.snap c.claimed.new.self old.names c.claimed.ensures.geometry c.claimed.ensures.objects old.known;
      exclusives = same_seen _ _ _ _ c.claimed.ensures.exclusives c.claimed.ensures.objects old.exclusives;
    }
