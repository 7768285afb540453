-- nothing changes but what is out, taken and in memory
use Rattle.std.proofs.Common.{◌≡◌, [], length}
use Rattle.txn_law.specs.CoreWindow.{PreservesHome}
use Rattle.txn.proofs.transactions.Core.abort_all.Given as goal

abbrev pub invariant-ending : goal.invariant-ending
invariant-ending g l = record {
  only : l.self ≡ record l.fn.self { out = l.self.out; holds = l.self.holds; present = l.self.present };
  none : l.fn.self.out ≡ [] → l.self ≡ l.fn.self;
  preserves : PreservesHome l.fn.self l.self;
}

abbrev pub decreases-ending : goal.decreases-ending
decreases-ending g l = length l.self.out
