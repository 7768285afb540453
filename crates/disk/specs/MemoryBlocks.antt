-- What a device in memory tells of are blocks: a proof, for the law of every device.
use Rattle.std.specs.Prelude.{ℕ, zero, suc, ◌<◌, List, [], ◌∷◌, map, length, slice_index_or, All}
use Rattle.std.proofs.Common.{refl, sym, subst}
use Rattle.std.proofs.lemmas.List.Elements.{All-head, All-tail, All-map, All-get_or}
use Rattle.disk.specs.declared.mem_disk.MemDisk.{MemDisk}
use Rattle.disk.specs.Blocks.{AreContents, AreWhole, AreBlocks}
use Rattle.disk.specs.Memory.{held_at, blocks_of, past_of, memory_device}

-- what holds of each member and of the default holds at each index
index_or : {X : Type 0} (P : X → Type 0) (xs : List X) (index : ℕ) (d : X) → All P xs → P d
    → P (slice_index_or xs index d)
index_or P [] index d all p = p
index_or P (x ∷ xs) zero d all p = All-head P x xs all
index_or P (x ∷ xs) (suc index) d all p = index_or P xs index d (All-tail P x xs all) p

pub memory_blocks : (d : MemDisk) → AreBlocks (memory_device d)
memory_blocks d =
    let size : ℕ = length (blocks_of d) in
    let at : (clock : ℕ) → AreWhole size (held_at (blocks_of d) (past_of d) clock) = λ clock.
    index_or (AreWhole size) (map (λ e. e.0) (past_of d)) clock (blocks_of d)
    (All-map (AreWhole size) (λ e. e.0) (past_of d)
    (All-map (λ e. AreWhole size e.0) (λ e. (e.0.value.items, e.1)) d.history.past.items d.past))
    (refl, d.whole) in
    let each : (clock block : ℕ) → block < size
    → AreContents (slice_index_or (held_at (blocks_of d) (past_of d) clock) block []) = λ clock block h.
    All-get_or AreContents (held_at (blocks_of d) (past_of d) clock) block []
    (subst (λ (n : ℕ). block < n) (sym (at clock).0) h) (at clock).1 in
    record {
      some = λ clock block before h. (each clock block h).0;
      blocks = λ clock block before h. (each clock block h).1;
    }
