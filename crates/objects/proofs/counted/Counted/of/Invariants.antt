-- the numbers up to the index are counted
use Rattle.std.proofs.Common.{◌≤◌}
use Rattle.objects.specs.Counted.{IsCounted}
use Rattle.objects.specs.Numbers.{numbers_at}
use Rattle.objects.proofs.counted.Counted.of.Given as goal

abbrev pub invariant-indexes : goal.invariant-indexes
invariant-indexes l = record {
  few : l.count ≤ l.index;
  counted : IsCounted (numbers_at l.index 0 l.bytes)
      (record { count = l.count; least = l.least; greatest = l.greatest });
}
