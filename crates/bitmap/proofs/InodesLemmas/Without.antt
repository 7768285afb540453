-- The bits that are clear.
use Rattle.std.proofs.Common.{◌≡◌, ℕ, ◌+◌, ◌≤◌, inl, inr, sym, ap, ◌∙◌, refl, subst, Bool, true, false, cond}
use Rattle.std.proofs.Common.{List, [], ◌∷◌, ◌++◌, nat_eq, arith}
use Rattle.std.specs.List.{AllByRecursion}
use Rattle.std.proofs.lemmas.Bool.{cases_eq, eq-eqb}
use Rattle.std.proofs.lemmas.List.Sums.{sum_by-cons}
use Rattle.layout.specs.Parts.{put}
use Rattle.layout.proofs.Written.{not_same}
use Rattle.inode.proofs.WriteSetsLemmas.Marks.{times}
use Rattle.bitmap.specs.Inodes.Frees.{without}

one_more : (b x : ℕ) (xs : List ℕ) → times b (x ∷ xs) ≡ cond (nat_eq x b) 1 0 + times b xs
one_more b x xs = sum_by-cons (λ one. cond (nat_eq one b) 1 0) x xs

either : (t v : Bool) → v ≡ false → cond t false v ≡ false
either true v e = refl
either false v e = e

stays : (numbers : List ℕ) (bits : ℕ → Bool) (b : ℕ) → bits b ≡ false → without numbers bits b ≡ false
stays [] bits b e = e
stays (x ∷ xs) bits b e = stays xs (put bits x false) b (either (nat_eq b x) (bits b) e)

pub without_them : (numbers : List ℕ) (bits : ℕ → Bool) (b : ℕ) → 1 ≤ times b numbers
    → without numbers bits b ≡ false
without_them [] bits b some = absurd (omega (arith, some))
without_them (x ∷ xs) bits b some = elim (cases_eq x b) [
  | inl is ↦ stays xs (put bits x false) b
      (ap (λ t. cond t false (bits b)) (eq-eqb b x (sym is)))
  | inr not ↦ without_them xs (put bits x false) b
      (let more = one_more b x xs in let none = ap {B = ℕ} (λ (t : Bool). cond t 1 0) (not_same x b not) in
      omega (arith, some, more, none))
]

pub without_others : (numbers : List ℕ) (bits : ℕ → Bool) (b : ℕ) → times b numbers ≡ 0
    → without numbers bits b ≡ bits b
without_others [] bits b none = refl
without_others (x ∷ xs) bits b none = elim (cases_eq x b) [
  | inl is ↦ (let more = one_more b x xs in let some = ap {B = ℕ} (λ (t : Bool). cond t 1 0) (eq-eqb x b is) in
      absurd (omega (arith, none, more, some)))
  | inr not ↦
      without_others xs (put bits x false) b
      (let more = one_more b x xs in omega (arith, none, more))
      ∙ ap (λ t. cond t false (bits b)) (not_same b x (λ same. not (sym same)))
]

-- numbers, and then others
pub without_both : (xs ys : List ℕ) (bits : ℕ → Bool) → without (xs ++ ys) bits ≡ without ys (without xs bits)
without_both [] ys bits = refl
without_both (x ∷ xs) ys bits = without_both xs ys (put bits x false)

-- what holds of each number of a list holds of one that is in it
pub held_by : (P : ℕ → Type 0) (xs : List ℕ) (b : ℕ) → AllByRecursion P xs → 1 ≤ times b xs → P b
held_by P [] b all some = absurd (omega (arith, some))
held_by P (x ∷ xs) b all some = elim (cases_eq x b) [
  | inl is ↦ subst P is all.0
  | inr not ↦ held_by P xs b all.1
      (let more = one_more b x xs in let none = ap {B = ℕ} (λ (t : Bool). cond t 1 0) (not_same x b not) in
      omega (arith, some, more, none))
]
