use Rattle.std.proofs.Common.{◌≡◌, ◌≤◌, ◌++◌, drop}
use Rattle.xdr.specs.Codes.{word, items_bytes}
use Rattle.nfs_results.proofs.outcomes.put_numbers.Given as goal

abbrev pub invariant-loop-number : goal.invariant-loop-number
invariant-loop-number l = (l.out.bytes ++ items_bytes word (drop l.number-index l.numbers) ≡ l.fn.out.bytes
    ++ items_bytes word l.numbers) × (l.fn.out.capacity ≤ l.out.capacity) × (l.out.counts ≡ l.fn.out.counts)
