-- How many blocks the tail holds, and how many more by a group.
use Rattle.std.proofs.Common.{◌≡◌, ◌+◌, ◌≤◌, Bool, true, false, not, cond, List, [], ◌∷◌, length, drop, ◌∙◌}
use Rattle.std.proofs.Common.{arith}
use Rattle.std.proofs.lemmas.List.{length-drop, length-map}
use Rattle.disk.specs.declared.block.BlockNo.{BlockNo}
use Rattle.circ.specs.declared.log.change.LogChange.{LogChange}
use Rattle.circ.specs.Log.Log.{Log, is_among, new_blocks, tail_blocks, tail_count}

pub tail_length : (log : Log) → length (tail_blocks log) ≡ tail_count log
tail_length log = length-map (drop (log.logged + log.taken) log.changes) (λ (change : LogChange). change.block)
    ∙ length-drop (log.logged + log.taken) log.changes

-- a tail lacks no more than all of the blocks
pub few_new : (tail blocks : List BlockNo) → length (new_blocks tail blocks) ≤ length blocks
few_new tail [] = omega arith
few_new tail (block ∷ blocks) = go (not (is_among block tail)) (few_new tail blocks)
  where
    go : (t : Bool) → length (new_blocks tail blocks) ≤ length blocks
        → length (cond t (block ∷ new_blocks tail blocks) (new_blocks tail blocks)) ≤ length (block ∷ blocks)
    go true h = omega (arith, h)
    go false h = omega (arith, h)
