use Rattle.inode.proofs.HadExclusive.{none_exclusive, same_seen}
use Rattle.procs.proofs.KnownNames.{none_known, none_of}
use Rattle.procs.proofs.planner.Planner.new.Goals as goal

pub invariant_of-result : goal.invariant_of-result
invariant_of-result c = record {
  known = none_known c.new.result;
  exclusives = same_seen _ _ _ _ c.new.ensures.exclusives c.new.ensures.objects none_exclusive;
}

pub returns-clause-of : goal.returns-clause-of
returns-clause-of c = λ call. none_of call
