-- Lemmas: nothing goes from memory that is pinned or being fetched.
use Rattle.std.proofs.Common.{◌≡◌, refl, ap, sym, ◌∙◌, ℕ, ◌+◌, ◌≤◌, Bool, true, false, not, cond}
use Rattle.std.proofs.Common.{◌||◌, ◌&&◌, if◌then◌else◌, nat_eq, nat_lt, List, [], ◌∷◌, All}
use Rattle.std.proofs.Common.{is_none, slice_index_or, subst, arith}
use Rattle.std.proofs.lemmas.Bool.{ltb-true, lt-ltb, eqb-true}
use Rattle.std.proofs.lemmas.List.Elements.{All-head, All-tail}
use Rattle.std.specs.List.{filter}
use Rattle.disk.specs.declared.block.BlockNo.{BlockNo}
use Rattle.objects.specs.Pins.{Residents, LetsGo, Pins, Unpins, is_wanted, once_at, pins_of, spared}
use Rattle.objects.specs.Present.{IsOnce, without_clean}
use Rattle.objects.specs.declared.present.Present.{Present}
use Rattle.objects.proofs.Residents.{once_filter, same_block}

-- a filter by what all pass keeps the list
pub filter_all : {X : Type 0} (p : X → Bool) (xs : List X) → All (λ x. p x ≡ true) xs → filter p xs ≡ xs
filter_all p [] h = refl
filter_all p (x ∷ xs) h =
    go (filter_all p xs (All-tail (λ x. p x ≡ true) x xs h)) (p x) (All-head (λ x. p x ≡ true) x xs h)
  where
    go : filter p xs ≡ xs → (t : Bool) → t ≡ true → cond t (x ∷ filter p xs) (filter p xs) ≡ x ∷ xs
    go rest true e = ap (λ ys. x ∷ ys) rest
    go rest false e = absurd cc

-- one filter behind another is that by both tests
filter_both : {X : Type 0} (p q : X → Bool) (xs : List X)
    → filter p (filter q xs) ≡ filter (λ x. q x && p x) xs
filter_both p q [] = refl
filter_both p q (x ∷ xs) = go (q x) (filter_both p q xs)
  where
    go : (t : Bool) → filter p (filter q xs) ≡ filter (λ y. q y && p y) xs
        → filter p (cond t (x ∷ filter q xs) (filter q xs))
        ≡ cond (t && p x) (x ∷ filter (λ y. q y && p y) xs) (filter (λ y. q y && p y) xs)
    go true rest = ap (λ ys. cond (p x) (x ∷ ys) ys) rest
    go false rest = rest

or_more : (n : Bool) (a b : ℕ) → a ≤ b → (n || nat_lt 0 a) ≡ true → (n || nat_lt 0 b) ≡ true
or_more true a b le h = refl
or_more false a b le h = let some = ltb-true 0 a h in lt-ltb 0 b (omega (arith, le, some))

-- what is wanted stays so by more pins
pub still_wanted : (few many : BlockNo → ℕ) (resident : Present) → few resident.block ≤ many resident.block
    → is_wanted few resident ≡ true → is_wanted many resident ≡ true
still_wanted few many resident le h = or_more (is_none resident.content) (few resident.block) (many resident.block) le h

-- where all is spared nothing goes
pub spared_all : (pins : BlockNo → ℕ) (blocks : List Present) → blocks ≡ spared (λ resident. true) pins blocks
spared_all pins blocks = sym (filter_all (λ resident. true) blocks (λ k d lt. refl))

pub lets_none : (pins : BlockNo → ℕ) (blocks : List Present) → LetsGo pins blocks blocks
lets_none pins blocks = ((λ resident. true), spared_all pins blocks)

pub or_true : (t : Bool) → (t || true) ≡ true
or_true true = refl
or_true false = refl

-- one after the other
spared_then : (few many : BlockNo → ℕ) (first second : Present → Bool) (blocks : List Present)
    → ((at : BlockNo) → few at ≤ many at)
    → spared second few (spared first many blocks)
    ≡ spared (λ resident. (first resident || is_wanted many resident) && second resident) few blocks
spared_then few many first second blocks le =
    filter_both (λ resident. second resident || is_wanted few resident)
    (λ resident. first resident || is_wanted many resident) blocks
    ∙ (λ i. filter (λ resident. both (first resident || is_wanted many resident) (second resident)
    (is_wanted few resident) (more resident) i) blocks)
  where
    more : (resident : Present) → is_wanted few resident ≡ true → (first resident || is_wanted many resident) ≡ true
    more resident w =
        ap (λ t. first resident || t) (still_wanted few many resident (le resident.block) w) ∙ or_true (first resident)

    both : (kept spare w : Bool) → (w ≡ true → kept ≡ true) → (kept && (spare || w)) ≡ ((kept && spare) || w)
    both true spare w more = refl
    both false spare true more = absurd (let no : false ≡ true = more refl in cc)
    both false spare false more = refl

pub unpins_none : (residents : Residents) → Unpins residents (λ at. 0) residents
unpins_none residents = ((λ at. omega arith), lets_none (pins_of residents) residents.blocks)

pub unpins_then : (one two three : Residents) (less more all : BlockNo → ℕ)
    → ((at : BlockNo) → all at ≡ less at + more at) → Unpins one less two → Unpins two more three
    → Unpins one all three
unpins_then one two three less more all sums first second =
    let spare : Present → Bool = λ resident.
    (first.1.0 resident || is_wanted (pins_of two) resident) && second.1.0 resident in (
      (λ at. omega (arith, sums at, first.0 at, second.0 at)),
      (
        spare,
        second.1.1 ∙ ap (spared second.1.0 (pins_of three)) first.1.1
            ∙ spared_then (pins_of three) (pins_of two) first.1.0 second.1.0 one.blocks
            (λ at. omega (arith, second.0 at)),
      ),
    )

pub pins_none : (residents : Residents) → Pins residents (λ at. 0) residents
pins_none residents = ((λ at. omega arith), refl)

pub pins_then : (one two three : Residents) (more most all : BlockNo → ℕ)
    → ((at : BlockNo) → all at ≡ more at + most at) → Pins one more two → Pins two most three
    → Pins one all three
pins_then one two three more most all sums first second =
    ((λ at. omega (arith, sums at, first.0 at, second.0 at)), second.1 ∙ first.1)

pub all_both : {X : Type 0} (P Q R : X → Type 0) → ((x : X) → P x → Q x → R x) → (xs : List X) → All P xs
    → All Q xs → All R xs
all_both P Q R f xs one other = λ k d lt. f (slice_index_or xs k d) (one k d lt) (other k d lt)

pub once_here : (block at : BlockNo) → nat_eq at.0 block.0 ≡ true → once_at block at ≡ 1
once_here block at e = ap (λ t. if t then 1 else 0) e

or_free : (n : Bool) (a : ℕ) → a ≡ 0 → n ≡ (n || nat_lt 0 a)
or_free true a e = refl
or_free false a e = sym (ap (nat_lt 0) e)

-- a block that nobody has pinned goes, where no fetch of it is pending
pub lets_go : (pins : BlockNo → ℕ) (block : BlockNo) (blocks : List Present) → pins block ≡ 0
    → LetsGo pins blocks (without_clean blocks block)
lets_go pins block blocks none = (
  (λ resident. not (nat_eq resident.block.0 block.0)),
  λ i. filter (λ resident. one resident (nat_eq resident.block.0 block.0) refl i) blocks,
)
  where
    one : (resident : Present) (t : Bool) → nat_eq resident.block.0 block.0 ≡ t
        → (not t || is_none resident.content) ≡ (not t || is_wanted pins resident)
    one resident true e =
        or_free (is_none resident.content) (pins resident.block)
        (ap pins (same_block resident.block block (eqb-true resident.block.0 block.0 e)) ∙ none)
    one resident false e = refl

-- and each has one resident still
pub once_left : (pins : BlockNo → ℕ) (old new : List Present) → LetsGo pins old new → IsOnce old → IsOnce new
once_left pins old new lets h =
    subst IsOnce (sym lets.1) (once_filter (λ resident. lets.0 resident || is_wanted pins resident) old h)
