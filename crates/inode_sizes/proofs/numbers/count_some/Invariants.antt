-- as many as are blocks' among the numbers so far
use Rattle.std.proofs.Common.{◌≡◌, ◌≤◌, count_by, take}
use Rattle.inode_sizes.specs.Cut.{is_some}
use Rattle.inode_sizes.proofs.numbers.count_some.Given as goal

abbrev pub invariant-loop-number : goal.invariant-loop-number
invariant-loop-number l = (l.count ≤ l.number-index) × (l.count ≡ count_by is_some (take l.number-index l.numbers))
