-- as many as are kept among the numbers so far
use Rattle.std.proofs.Common.{◌≡◌, ◌≤◌, take}
use Rattle.layout.specs.Fields.{count_of}
use Rattle.layout.proofs.numbers.count_mapped.Given as goal

abbrev pub invariant-loop-number : goal.invariant-loop-number
invariant-loop-number l = (l.mapped ≤ l.number-index) × (l.mapped ≡ count_of (take l.number-index l.numbers))
