use Rattle.std.proofs.Common.{◌≡◌, ◌+◌, ◌*◌, ◌++◌, length, take}
use Rattle.layout.specs.Fields.{number_bytes}
use Rattle.layout.proofs.inode_bytes.put_numbers.Given as goal

abbrev pub invariant-loop-number : goal.invariant-loop-number
invariant-loop-number l = (l.bytes.items ≡ l.fn.bytes.items ++ number_bytes (take l.number-index l.numbers))
    × (length l.bytes.items ≡ length l.fn.bytes.items + 4 * l.number-index)
