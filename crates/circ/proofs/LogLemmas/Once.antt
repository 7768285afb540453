-- Lemmas: blocks that stand there once.
use Rattle.std.proofs.Common.{◌≡◌, ℕ, ◌<◌, Bool, true, false, ◌||◌, nat_eq, List, [], ◌∷◌, ◌++◌, All, refl, sym}
use Rattle.std.proofs.Common.{ap, ◌∙◌, arith, ne_eqb}
use Rattle.std.proofs.lemmas.Bool.{eqb-true, eq-eqb}
use Rattle.std.proofs.lemmas.List.Elements.{All-head, All-tail}
use Rattle.disk.specs.declared.block.BlockNo.{BlockNo}
use Rattle.circ.specs.Log.Log.{AreOnce, is_among}

pub true≢false : true ≡ false → ⊥
true≢false e = cc

pub same_block : (a b : BlockNo) → nat_eq a.0 b.0 ≡ true → a ≡ b
same_block a b e = ap (λ (n : ℕ). record { 0 = n }) (eqb-true a.0 b.0 e)

among-append : (block : BlockNo) (xs ys : List BlockNo)
    → is_among block (xs ++ ys) ≡ (is_among block xs || is_among block ys)
among-append block [] ys = refl
among-append block (x ∷ xs) ys = go (nat_eq x.0 block.0) (among-append block xs ys)
  where
    go : (t : Bool) → is_among block (xs ++ ys) ≡ (is_among block xs || is_among block ys)
        → (t || is_among block (xs ++ ys)) ≡ ((t || is_among block xs) || is_among block ys)
    go true e = refl
    go false e = e

pub once-append : (xs zs : List BlockNo) → AreOnce xs → AreOnce zs
    → ((block : BlockNo) → is_among block zs ≡ true → is_among block xs ≡ false) → AreOnce (xs ++ zs)
once-append [] zs h k apart = k
once-append (x ∷ xs) zs h k apart = (
  among-append x xs zs ∙ ap (λ (t : Bool). t || is_among x zs) h.0
      ∙ not_there (is_among x zs) refl,
  once-append xs zs h.1 k (λ block there. behind block (nat_eq x.0 block.0) (apart block there)),
)
  where
    not_there : (t : Bool) → is_among x zs ≡ t → t ≡ false
    not_there false e = refl
    not_there true e = absurd (true≢false (ap (λ (t : Bool). t || is_among x xs) (sym (eq-eqb x.0 x.0 refl))
        ∙ apart x e))

    behind : (block : BlockNo) (t : Bool) → (t || is_among block xs) ≡ false → is_among block xs ≡ false
    behind block true e = absurd (true≢false e)
    behind block false e = e

-- one block more
pub once-push : (xs : List BlockNo) (block : BlockNo) → AreOnce xs → is_among block xs ≡ false
    → AreOnce (xs ++ block ∷ [])
once-push xs block h apart =
    once-append xs (block ∷ []) h (refl, tt) (λ other there. go other (nat_eq block.0 other.0) refl there)
  where
    go : (other : BlockNo) (t : Bool) → nat_eq block.0 other.0 ≡ t → (t || false) ≡ true
        → is_among other xs ≡ false
    go other true e there = ap (λ b. is_among b xs) (sym (same_block block other e)) ∙ apart
    go other false e there = absurd (true≢false (sym there))

-- a block behind all of these isn't among them
pub behind_all : (xs : List BlockNo) (block : BlockNo) → All (λ (b : BlockNo). b.0 < block.0) xs
    → is_among block xs ≡ false
behind_all [] block h = refl
behind_all (x ∷ xs) block h =
    let below = All-head (λ (b : BlockNo). b.0 < block.0) x xs h in
    let other : nat_eq x.0 block.0 ≡ false = ne_eqb x.0 block.0 (λ same. absurd (omega (arith, below, same))) in
    ap (λ (t : Bool). t || is_among block xs) other
    ∙ behind_all xs block (All-tail (λ (b : BlockNo). b.0 < block.0) x xs h)
