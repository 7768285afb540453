use Rattle.std.proofs.Common.{◌≡◌, length, take}
use Rattle.objects.proofs.recent.keep_last.Given as goal

abbrev pub invariant-loop-numbers : goal.invariant-loop-numbers
invariant-loop-numbers l = record {
  kept : take l.count l.numbers.entries ≡ take l.count l.fn.numbers.entries;
  has_space : l.numbers.cap ≡ l.fn.numbers.cap;
}

abbrev pub decreases-loop-numbers : goal.decreases-loop-numbers
decreases-loop-numbers l = length l.numbers.entries
