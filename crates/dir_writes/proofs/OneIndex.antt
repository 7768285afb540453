-- A block that a file has once is at one index of it.
use Rattle.std.proofs.Common.{◌≡◌, ℕ, zero, suc, ◌+◌, ◌<◌, ◌≤◌, inl, inr, sym, ap, ◌∙◌, refl, subst, Bool}
use Rattle.std.proofs.Common.{true, false}
use Rattle.std.proofs.Common.{cond, not, List, [], ◌∷◌, get_or, length, filter, nat_eq, sum_by, arith}
use Rattle.std.specs.List.{AllByRecursion, range_with_len}
use Rattle.std.proofs.lemmas.Bool.{cases_eq, cases_lt, eq-eqb}
use Rattle.std.proofs.lemmas.List.Sums.{sum_by-cons}
use Rattle.disk.specs.Crash.{Image}
use Rattle.layout.specs.declared.geometry.Geometry.{Geometry}
use Rattle.layout.specs.Owners.{owned, owned_by}
use Rattle.layout.specs.Parts.{Parts, put}
use Rattle.layout.proofs.Frame.{counts}
use Rattle.layout.proofs.Written.{not_same}
use Rattle.inode.proofs.WriteSetsLemmas.Marks.{times}

one_more : (b x : ℕ) (xs : List ℕ) → times b (x ∷ xs) ≡ cond (nat_eq x b) 1 0 + times b xs
one_more b x xs = sum_by-cons (λ one. cond (nat_eq one b) 1 0) x xs

abbrev some : List ℕ → List ℕ
some numbers = filter (λ number. not (nat_eq number 0)) numbers

-- one more number, which is that of a block or none
pub at_head : (b : ℕ) (xs : List ℕ) → nat_eq b 0 ≡ false → times b (some (b ∷ xs)) ≡ 1 + times b (some xs)
at_head b xs is =
    ap (λ t. times b (cond (not t) (b ∷ some xs) (some xs))) is ∙ one_more b b (some xs)
    ∙ ap {B = ℕ} (λ (t : Bool). cond t 1 0 + times b (some xs)) (eq-eqb b b refl)

pub no_fewer : (b x : ℕ) (xs : List ℕ) → times b (some xs) ≤ times b (some (x ∷ xs))
no_fewer b x xs = by_test (nat_eq x 0)
  where
    by_test : (t : Bool) → times b (some xs) ≤ times b (cond (not t) (x ∷ some xs) (some xs))
    by_test true = omega arith
    by_test false = let more = one_more b x (some xs) in omega (arith, more)

pub once_there : (b : ℕ) (xs : List ℕ) (i : ℕ) → nat_eq b 0 ≡ false → i < length xs → get_or xs i 0 ≡ b
    → 1 ≤ times b (some xs)
once_there b [] i is less e = absurd (omega (arith, less))
once_there b (x ∷ xs) zero is less e =
    subst (λ k. 1 ≤ times b (some (k ∷ xs))) (sym e) (let head = at_head b xs is in omega (arith, head))
once_there b (x ∷ xs) (suc i) is less e =
    let rest = once_there b xs i is (omega (arith, less)) e in
    let more = no_fewer b x xs in omega (arith, rest, more)

twice_there : (b : ℕ) (xs : List ℕ) (i j : ℕ) → nat_eq b 0 ≡ false → i < j → j < length xs → get_or xs i 0 ≡ b
    → get_or xs j 0 ≡ b → 2 ≤ times b (some xs)
twice_there b [] i j is order less e f = absurd (omega (arith, less))
twice_there b (x ∷ xs) i zero is order less e f = absurd (omega (arith, order))
twice_there b (x ∷ xs) zero (suc j) is order less e f =
    let rest = once_there b xs j is (omega (arith, less)) f in
    subst (λ k. 2 ≤ times b (some (k ∷ xs))) (sym e) (let head = at_head b xs is in omega (arith, head, rest))
twice_there b (x ∷ xs) (suc i) (suc j) is order less e f =
    let rest = twice_there b xs i j is (omega (arith, order)) (omega (arith, less)) e f in
    let more = no_fewer b x xs in omega (arith, rest, more)

pub one_index : (b : ℕ) (xs : List ℕ) (i j : ℕ) → nat_eq b 0 ≡ false → times b (some xs) ≤ 1 → i < length xs
    → j < length xs → get_or xs i 0 ≡ b → get_or xs j 0 ≡ b → i ≡ j
one_index b xs i j is few low less e f = elim (cases_eq i j) [
  | inl same ↦ same
  | inr differ ↦ (elim (cases_lt i j) [
    | inl order ↦ (let two = twice_there b xs i j is order less e f in absurd (omega (arith, two, few)))
    | inr order ↦ (let two = twice_there b xs j i is (later j i order differ) low f e in
        absurd (omega (arith, two, few)))
  ])
]
  where
    later : (j i : ℕ) → j ≤ i → (i ≡ j → ⊥) → j < i
    later j i order differ = omega (arith, order, differ)

-- ---- the blocks of others

part : (f : ℕ → ℕ) (n a k : ℕ) → a ≤ n → n < a + k → f n ≤ sum_by f (range_with_len a k)
part f n a zero from to = absurd (omega (arith, from, to))
part f n a (suc k) from to =
    let here = sum_by-cons f a (range_with_len (a + 1) k) in
    elim (cases_eq a n) [
      | inl is ↦ let same : f a ≡ f n = ap f is in omega (arith, here, same)
      | inr not ↦
          let rest : f n ≤ sum_by f (range_with_len (a + 1) k) =
          part f n (a + 1) k (later a n from not) (omega (arith, to)) in
          omega (arith, here, rest)
    ]
  where
    later : (a n : ℕ) → a ≤ n → (a ≡ n → ⊥) → a + 1 ≤ n
    later a n from not = omega (arith, from, not)

pub own_part : (g : Geometry) (parts : Parts) (m b : ℕ) → m < g.inodes
    → times b (owned_by parts.content (parts.table m)) ≤ times b (owned g parts)
unfolding owned
own_part g parts m b less =
    let are = counts (λ one. nat_eq one b) (λ k. owned_by parts.content (parts.table k))
    (range_with_len 0 g.inodes) in
    let low = part (λ k. times b (owned_by parts.content (parts.table k))) m 0 g.inodes (omega arith)
    (omega (arith, less)) in
    omega (arith, are, low)

-- a block that isn't among these numbers is the same in blocks where it was put
pub elsewhere : (content : Image) (b : ℕ) (block : List ℕ) (numbers : List ℕ) → times b numbers ≡ 0
    → AllByRecursion (λ one. put content b block one ≡ content one) numbers
elsewhere content b block [] none = tt
elsewhere content b block (x ∷ xs) none = elim (cases_eq x b) [
  | inl is ↦ (let more = one_more b x xs in
      let here = ap {B = ℕ} (λ (t : Bool). cond t 1 0) (eq-eqb x b is) in absurd (omega (arith, none, more, here)))
  | inr not ↦ (
    ap (λ t. cond t block (content x)) (not_same x b not),
    elsewhere content b block xs (let more = one_more b x xs in omega (arith, none, more)),
  )
]

-- what holds of each number of a list holds of one that is in it
pub held_by : (P : ℕ → Type 0) (xs : List ℕ) (b : ℕ) → AllByRecursion P xs → 1 ≤ times b xs → P b
held_by P [] b all some = absurd (omega (arith, some))
held_by P (x ∷ xs) b all some = elim (cases_eq x b) [
  | inl is ↦ subst P is all.0
  | inr not ↦ held_by P xs b all.1
      (let more = one_more b x xs in let none = ap {B = ℕ} (λ (t : Bool). cond t 1 0) (not_same x b not) in
      omega (arith, some, more, none))
]

pub nothing_else : (content : Image) (numbers : List ℕ) → AllByRecursion (λ b. content b ≡ content b) numbers
nothing_else content [] = tt
nothing_else content (n ∷ numbers) = (refl, nothing_else content numbers)
