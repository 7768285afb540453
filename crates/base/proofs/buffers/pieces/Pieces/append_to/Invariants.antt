-- the pieces so far stand behind, and there is room for the rest
use Rattle.std.proofs.Common.{◌≡◌, ◌+◌, ◌≤◌, ◌++◌, take, drop, flat_map, length, vec_len, vec_capacity}
use Rattle.base.proofs.buffers.pieces.Pieces.append_to.Given as goal

abbrev pub invariant-parts : goal.invariant-parts
invariant-parts l = (l.out.items ≡ l.fn.out.items ++ flat_map (λ part. part) (take l.part-index l.part-items))
    × (vec_len l.out + length (flat_map (λ part. part) (drop l.part-index l.part-items)) ≤ vec_capacity l.out)
