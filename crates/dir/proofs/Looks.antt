-- What a look at a slot tells of it.
use Rattle.std.proofs.Common.{◌≡◌, ℕ, ◌∙◌, refl, sym, ap, List, Option, Some, Result, Ok, Err, IsOk}
use Rattle.layout.specs.declared.fault.LayoutFault.{LayoutFault}
use Rattle.layout.specs.declared.slot.Slot.{Slot}
use Rattle.layout.specs.SlotForm.{number_under}

abbrev Under : Type 0
Under = Result (Option ℕ) LayoutFault

module _ (name : List ℕ) where
  -- one that is refused has no number under a name
  pub refused_none : (read : Result (Option Slot) LayoutFault) (fault : LayoutFault) → read ≡ Err fault → (number : ℕ)
      → number_under name read ≡ Ok (Some number) → ⊥
  refused_none read fault refused number is =
      let clash : ◌≡◌ {A = Under} (Err fault) (Ok (Some number)) = sym (ap (number_under name) refused) ∙ is in cc

  -- one of which it is known what it has under a name isn't refused
  pub under_ok : (read : Result (Option Slot) LayoutFault) (under : Option ℕ) → number_under name read ≡ Ok under
      → IsOk read
  under_ok (Ok one) under is = refl
  under_ok (Err fault) under is = cc
