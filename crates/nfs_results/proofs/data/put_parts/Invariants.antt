use Rattle.std.proofs.Common.{◌≡◌, ◌≤◌, ◌++◌, drop, flat_map}
use Rattle.nfs_results.proofs.data.put_parts.Given as goal

abbrev pub invariant-loop-part : goal.invariant-loop-part
invariant-loop-part l = (l.out.bytes ++ flat_map (λ part. part) (drop l.part-index l.parts) ≡ l.fn.out.bytes
    ++ flat_map (λ part. part) l.parts) × (l.fn.out.capacity ≤ l.out.capacity) × (l.out.counts ≡ l.fn.out.counts)
