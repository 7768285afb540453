-- The bytes of a bitmap, put one by one.
use Rattle.std.proofs.Common.{◌≡◌, ◌+◌, ◌*◌, ◌<◌, ◌++◌, ◌∷◌, ℕ, Bool, List, [], take, drop, map, length}
use Rattle.std.proofs.Common.{length-append, ap, sym, ◌∙◌, arith}
use Rattle.std.specs.List.{range_with_len}
use Rattle.std.proofs.lemmas.List.{take_all, length-take-le}
use Rattle.std.proofs.Math.Seq.{take-append_seam}
use Rattle.std.proofs.lemmas.List.FromFn.{map-range_with_len_more}
use Rattle.base.specs.declared.TheConstants.{BLOCK_BYTES}
use Rattle.layout.specs.Fresh.{byte_of, bitmap_block}

-- the first bytes of a block in which one more was put
taken : (block : List ℕ) (index byte : ℕ) → index < length block
    → take (index + 1) (take index block ++ byte ∷ [] ++ drop (index + 1) block) ≡ take index block
    ++ byte ∷ []
taken block index byte less =
    let before = length-take-le index block (omega (arith, less)) in
    let n : length (take index block ++ byte ∷ []) ≡ index + 1 =
    omega (arith, length-append (take index block) (byte ∷ []), before) in
    ap (λ n. take n (take index block ++ byte ∷ [] ++ drop (index + 1) block)) (sym n)
    ∙ take-append_seam (take index block ++ byte ∷ []) (drop (index + 1) block)

pub one_more : (marked : ℕ → Bool) (first index byte : ℕ) (old new : List ℕ) → index < length old
    → new ≡ take index old ++ byte ∷ [] ++ drop (index + 1) old
    → byte ≡ byte_of marked (first + 8 * index)
    → take index old ≡ map (λ index. byte_of marked (first + 8 * index)) (range_with_len 0 index)
    → take (index + 1) new ≡ map (λ index. byte_of marked (first + 8 * index)) (range_with_len 0 (index + 1))
one_more marked first index byte old new less put is so_far =
    ap (take (index + 1)) put
    ∙ taken old index byte less
    ∙ (λ i. so_far i ++ is i ∷ [])
    ∙ sym (map-range_with_len_more (λ index. byte_of marked (first + 8 * index)) 0 index index (omega arith))

pub whole : (marked : ℕ → Bool) (first index : ℕ) (block : List ℕ) → index ≡ BLOCK_BYTES
    → length block ≡ BLOCK_BYTES
    → take index block ≡ map (λ index. byte_of marked (first + 8 * index)) (range_with_len 0 index)
    → block ≡ bitmap_block marked first
unfolding bitmap_block
whole marked first index block all long so_far =
    sym (take_all index block (omega (arith, all, long)))
    ∙ so_far
    ∙ ap (λ n. map (λ index. byte_of marked (first + 8 * index)) (range_with_len 0 n)) all
