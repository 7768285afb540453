-- What is read as nothing is refused, and nothing else is.
use Rattle.std.proofs.Common.{◌≡◌, sym, ap, ◌∙◌, refl, Bool, true, false, cond, Result, Ok, Err, IfOk, IfErr}
use Rattle.layout.specs.declared.fault.LayoutFault.{LayoutFault}
use Rattle.layout.specs.declared.fault.LayoutFault.TheVariants.{Range}

-- a test that chooses between what is read and the refusal
pub chosen : {X : Type 0} (test : Bool) (read one : X) → cond test (Ok read) (Err Range) ≡ Ok one
    → (test ≡ true) × (read ≡ one)
chosen true read one e = (refl, cc)
chosen false read one e = cc

pub chosen_fault : {X : Type 0} (test : Bool) (read : X) (fault : LayoutFault)
    → cond test (Ok read) (Err Range) ≡ Err fault → fault ≡ Range
chosen_fault true read fault e = cc
chosen_fault false read fault e = cc

-- what is said of an answer
pub under : {Y E : Type 0} (P Q : Y → Type 0) → ((y : Y) → P y → Q y) → (answer : Result Y E)
    → IfOk answer P → IfOk answer Q
under P Q from (Ok y) is = from y is
under P Q from (Err e) is = tt

module _ {X : Type 0} (IsThere : X → Type 0) (read : Result X LayoutFault)
    (is_read : (one : X) → IsThere one → read ≡ Ok one)
    (read_is : (one : X) → read ≡ Ok one → IsThere one)
    (fault_is : (fault : LayoutFault) → read ≡ Err fault → fault ≡ Range) where
  abbrev IsRefused : LayoutFault → Type 0
  IsRefused fault = (fault ≡ Range) × ((one : X) → IsThere one → ⊥)

  pub refused : (fault : LayoutFault) → read ≡ Err fault → IsRefused fault
  refused fault e =
      (fault_is fault e, λ one is. let clash : Ok one ≡ Err fault = sym (is_read one is) ∙ e in cc)

  pub is_refused : (fault : LayoutFault) → IsRefused fault → read ≡ Err fault
  is_refused fault none = by_result read refl
    where
      by_result : (found : Result X LayoutFault) → read ≡ found → read ≡ Err fault
      by_result (Ok one) e = absurd (none.1 one (read_is one e))
      by_result (Err other) e = e ∙ ap (λ f. Err f) (fault_is other e ∙ sym none.0)

  -- so of what is answered
  pub read_or_ok : (found : Result X LayoutFault) → found ≡ read → IfOk found IsThere
  read_or_ok (Ok one) e = read_is one (sym e)
  read_or_ok (Err fault) e = tt

  pub read_or_err : (found : Result X LayoutFault) → found ≡ read → IfErr found IsRefused
  read_or_err (Ok one) e = tt
  read_or_err (Err fault) e = refused fault (sym e)
