use Rattle.std.proofs.Common.{refl}
use Rattle.inode.proofs.HadExclusive.{unseen_unhad}
use Rattle.inode.proofs.read.object_at.Goals as goal

pub returns-in-Some-clause-read : goal.returns-in-Some-clause-read
returns-in-Some-clause-read c = record {
  object = c.in-Some.object.now;
  there = c.in-Some.ensures.there;
  at = c.in-Some.ensures.some;
  bytes_are = refl;
}

pub returns-in-None-clause-err : goal.returns-in-None-clause-err
returns-in-None-clause-err c =
    unseen_unhad c.args.addr c.args.snap.now.asks c.args.snap.now.objects.items c.args.snap.now.exclusives.items
    c.in-None.ensures.none
