use Rattle.std.proofs.Common.{◌≡◌, ℕ, ◌<◌, ◌≤◌, length, get_or, [], ◌∷◌, ◌++◌, map, take, drop}
use Rattle.disk.specs.Choice.{chosen}
use Rattle.disk.proofs.mem_disk.choose.Given as goal

abbrev pub invariant-loop-index : goal.invariant-loop-index
invariant-loop-index l = record {
  filled : (block : ℕ) → block < l.index → 0 < length (get_or l.initial.blocks block []);
  few : l.next ≤ l.index;
  rest : drop l.index l.blocks ≡ drop l.index l.initial.blocks;
  done : map (λ c. c ∷ []) (chosen l.digits l.initial.blocks) ≡ take l.index l.blocks
      ++ map (λ c. c ∷ []) (chosen (drop l.next l.digits) (drop l.index l.initial.blocks));
}
