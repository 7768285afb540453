use Rattle.std.proofs.Common.{◌≡◌, ◌≤◌, ◌++◌, drop}
use Rattle.xdr.specs.Codes.{chain_bytes, some_too_long}
use Rattle.nfs_results.specs.Results.{entry_plus}
use Rattle.nfs_results.proofs.entries.put_entries_plus.Given as goal

abbrev pub invariant-loop-entry : goal.invariant-loop-entry
invariant-loop-entry l =
    (l.out.bytes ++ chain_bytes entry_plus (drop l.entry-index l.entries) ≡ l.fn.out.bytes
    ++ chain_bytes entry_plus l.entries)
    × (some_too_long entry_plus (drop l.entry-index l.entries) ≡ some_too_long entry_plus l.entries)
    × (l.fn.out.capacity ≤ l.out.capacity) × (l.out.counts ≡ l.fn.out.counts)
