-- Lemmas: what is true of every core stays so where an address is taken, or there was no room for it.
use Rattle.std.proofs.Common.{◌≡◌, ◌∙◌, ℕ, List, ap, sym, subst, refl}
use Rattle.std.proofs.Common.{Option, Some, None, Result, Ok, Err}
use Rattle.std.specs.Prelude.{OnOk, OnErr, is_some, if◌then◌else◌, Bool, ◌++◌, ◌∷◌, []}
use Rattle.disk.specs.Device.{Content}
use Rattle.objects.specs.Object.{ObjectBytes}
use Rattle.objects.specs.Present.{bytes_in, content_in, present_of}
use Rattle.objects.specs.declared.addr.Addr.{Addr}
use Rattle.objects.specs.declared.mode.Mode.{Mode}
use Rattle.objects.specs.declared.present.Present.{Present}
use Rattle.circ.specs.Log.Log.{newest, or_else}
use Rattle.txn_law.specs.Core.{CoreState}
use Rattle.txn_law.specs.CoreLaw.{IsLawfulCore}
use Rattle.txn_law.specs.Holds.{for_reading, with_hold}
use Rattle.txn_law.specs.Lists.{taken}
use Rattle.txn_law.specs.LockAnswers.{IsOpen}
use Rattle.txn_law.specs.Window.{part}
use Rattle.txn_law.specs.declared.hold.Hold.{Hold}
use Rattle.txn_law.proofs.CoreLaws.{lawful_held}

some_none : {A : Type 0} (x : A) → ◌≡◌ {A = Option A} (Some x) None → ⊥
some_none x e = cc

module _ (P : ℕ → ℕ → List ObjectBytes → List ObjectBytes → Type 0) where
  -- a hold was noted, or there was no room for it
  pub lawful_took : {T E : Type 0} (core : CoreState) (hold : Hold) (answer : Result T E) (left : List Hold)
      (present : List Present) → OnOk answer (left ≡ with_hold core.holds hold) → OnErr answer (left ≡ core.holds)
      → present ≡ core.present → IsLawfulCore P (record core { holds = with_hold core.holds hold })
      → IsLawfulCore P core → IsLawfulCore P (record core { holds = left; present = present })
  lawful_took core hold (Ok done) left present taken refused same more h =
      subst (λ (xs : List Present). IsLawfulCore P (record core { holds = left; present = xs })) (sym same)
      (subst (λ (hs : List Hold). IsLawfulCore P (record core { holds = hs })) (sym taken) more)
  lawful_took core hold (Err none) left present taken refused same more h =
      subst (λ (xs : List Present). IsLawfulCore P (record core { holds = left; present = xs })) (sym same)
      (subst (λ (hs : List Hold). IsLawfulCore P (record core { holds = hs })) (sym refused) h)

  -- an object is held whose block is in memory
  pub lawful_in_memory : (core : CoreState) (tx : ℕ) (addr : Addr) (mode : Mode) (bytes : List ℕ)
      → IsOpen core tx addr mode
      → Some bytes ≡ bytes_in (content_in (present_of core.present addr.block)) addr.offset addr.len
      → IsLawfulCore P core → IsLawfulCore P (record core { holds = with_hold core.holds (for_reading tx addr mode) })
  lawful_in_memory core tx addr mode bytes open' there h = go (present_of core.present addr.block) refl there
    where
      go : (o : Option Present) → present_of core.present addr.block ≡ o
          → Some bytes ≡ bytes_in (content_in o) addr.offset addr.len
          → IsLawfulCore P (record core { holds = with_hold core.holds (for_reading tx addr mode) })
      go None is e = absurd (some_none bytes e)
      go (Some resident) is e = at resident.content refl
        where
          at : (c : Option Content) → resident.content ≡ c
              → IsLawfulCore P (record core { holds = with_hold core.holds (for_reading tx addr mode) })
          at None none = absurd (some_none bytes (e ∙ ap (λ (x : Option Content). bytes_in x addr.offset addr.len) none))
          at (Some content) some =
              let there_is : content_in (present_of core.present addr.block) ≡ Some content =
              ap content_in is ∙ some in
              lawful_held P core (record core { holds = with_hold core.holds (for_reading tx addr mode) })
              tx addr mode (part content addr) open' (record {
                content = content;
                current = ap (λ (x : Option Content). or_else x (newest core.log addr.block.0)) there_is;
                bytes_there = refl;
                core = ap (λ (b : Bool). record core {
                  holds = with_hold core.holds (for_reading tx addr mode);
                  present = if b then core.present
                      else core.present ++ record { block = addr.block; content = Some content } ∷ [];
                }) (sym (ap (λ (x : Option Present). is_some x) is));
              }) h
