use Rattle.std.proofs.Common.{◌≡◌, ◌-◌}
use Rattle.rpc.specs.Credentials.{numbers_at}
use Rattle.rpc.proofs.Loops.{with_leading}
use Rattle.rpc.proofs.credential.read_numbers.Given as goal

abbrev pub invariant-loop : goal.invariant-loop
invariant-loop l = with_leading l.numbers.items (numbers_at (l.count - l.counter) l.reader)
    ≡ numbers_at l.fn.count l.fn.reader
