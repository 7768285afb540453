-- Boot numbers along a life.
use Rattle.std.proofs.Common.{◌≡◌, ℕ, zero, suc, ◌+◌, ◌<◌, ◌≤◌, inl, inr, sym, ap, ◌∙◌, refl, arith}
use Rattle.std.proofs.Common.{List, [], ◌∷◌, length, slice_get, Some}
use Rattle.nfs_spec.specs.Model.Entry.{Entry}
use Rattle.nfs_spec.specs.Procedures.Histories.{AreOfBoot}
use Rattle.nfs_spec.specs.Lives.Lives.{CountedRun, IsLife, Leaves}

-- what stands before what is there
pub one_before : {X : Type 0} (xs : List X) (at : ℕ) (x : X) → slice_get xs (suc at) ≡ Some x
    → (y : X) × (slice_get xs at ≡ Some y)
one_before [] at x is = cc
one_before (y ∷ xs) zero x is = (y, refl)
one_before (y ∷ xs) (suc at) x is = one_before xs at x is

-- one place has one
pub one_there : {X : Type 0} (xs : List X) (at : ℕ) (x y : X) → slice_get xs at ≡ Some x
    → slice_get xs at ≡ Some y → x ≡ y
one_there xs at x y is so = let same : Some x ≡ Some y = sym is ∙ so in cc

pub of_boot : (boot : ℕ) (entries : List Entry) (index : ℕ) (entry : Entry) → AreOfBoot boot entries
    → slice_get entries index ≡ Some entry → entry.ctx.boot ≡ boot
of_boot boot [] index entry are is = cc
of_boot boot (first ∷ entries) zero entry are is =
    let same : first ≡ entry = cc in
    ap (λ (e : Entry). e.ctx.boot) (sym same) ∙ are.0
of_boot boot (first ∷ entries) (suc index) entry are is = of_boot boot entries index entry are.1 is

pub some_there : {X : Type 0} (xs : List X) (index : ℕ) (x : X) → slice_get xs index ≡ Some x → 0 < length xs
some_there [] index x is = cc
some_there (y ∷ xs) index x is = omega arith

no_less : (run next : CountedRun) → Leaves run next → run.boot ≤ next.boot
no_less run next left = elim left.boot [
  | inl same ↦ omega (arith, same)
  | inr more ↦ omega (arith, more)
]

module _ (life : List CountedRun) (is : IsLife life) (one : ℕ) (run : CountedRun)
    (there : slice_get life one ≡ Some run) where
  -- a later run has no lesser boot number
  pub rises : (more later : ℕ) (next : CountedRun) → later ≡ one + more → slice_get life later ≡ Some next
      → run.boot ≤ next.boot
  rises zero later next same at =
      let here : later ≡ one = omega (arith, same) in
      let one_run : run ≡ next = one_there life later run next (ap (slice_get life) here ∙ there) at in
      let boots : run.boot ≡ next.boot = ap (λ (r : CountedRun). r.boot) one_run in
      omega (arith, boots)
  rises (suc more) later next same at =
      let here : later ≡ suc (one + more) = omega (arith, same) in
      let there_too : slice_get life (suc (one + more)) ≡ Some next = ap (slice_get life) (sym here) ∙ at in
      let before = one_before life (one + more) next there_too in
      let first = rises more (one + more) before.0 refl before.1 in
      let then = no_less before.0 next (is.left (one + more) before.0 next before.1 there_too) in
      omega (arith, first, then)

  -- and a greater one, where the run committed anything
  pub boot_incremented : (more later : ℕ) (next : CountedRun) → later ≡ suc (one + more)
      → slice_get life later ≡ Some next → 0 < length run.entries → run.boot < next.boot
  boot_incremented zero later next same at some =
      let here : later ≡ suc one = omega (arith, same) in
      let there_too : slice_get life (suc one) ≡ Some next = ap (slice_get life) (sym here) ∙ at in
      let boots = (is.left one run next there there_too).boot_incremented some in
      omega (arith, boots)
  boot_incremented (suc more) later next same at some =
      let here : later ≡ suc (suc (one + more)) = omega (arith, same) in
      let there_too : slice_get life (suc (suc (one + more))) ≡ Some next =
      ap (slice_get life) (sym here) ∙ at in
      let before = one_before life (suc (one + more)) next there_too in
      let first = boot_incremented more (suc (one + more)) before.0 refl before.1 some in
      let then = no_less before.0 next (is.left (suc (one + more)) before.0 next before.1 there_too) in
      omega (arith, first, then)
