-- the numbers up to the index are read
use Rattle.std.proofs.Common.{◌≡◌}
use Rattle.layout.specs.Fields.{numbers_at}
use Rattle.layout.proofs.numbers.Numbers.read.Given as goal

abbrev pub invariant-indexes : goal.invariant-indexes
invariant-indexes l = l.numbers.items ≡ numbers_at l.index 0 l.bytes
