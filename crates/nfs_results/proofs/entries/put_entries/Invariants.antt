use Rattle.std.proofs.Common.{◌≡◌, ◌≤◌, ◌++◌, drop}
use Rattle.xdr.specs.Codes.{chain_bytes, some_too_long}
use Rattle.nfs_results.specs.Results.{entry}
use Rattle.nfs_results.proofs.entries.put_entries.Given as goal

abbrev pub invariant-loop-entry : goal.invariant-loop-entry
invariant-loop-entry l =
    (l.out.bytes ++ chain_bytes entry (drop l.entry-index l.entries) ≡ l.fn.out.bytes
    ++ chain_bytes entry l.entries)
    × (some_too_long entry (drop l.entry-index l.entries) ≡ some_too_long entry l.entries)
    × (l.fn.out.capacity ≤ l.out.capacity) × (l.out.counts ≡ l.fn.out.counts)
