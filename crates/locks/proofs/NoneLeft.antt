-- Where a transaction hasn't taken an address, no hold of it goes.
use Rattle.std.proofs.Common.{◌≡◌, ℕ, List, [], ◌∷◌, None, refl, ap, inl, inr}
use Rattle.std.proofs.lemmas.Bool.{cases_Bool}
use Rattle.objects.specs.declared.addr.Addr.{Addr}
use Rattle.txn_law.specs.Holds.{hold_of, is_hold_of, without_hold}
use Rattle.txn_law.specs.declared.hold.Hold.{Hold}

pub none_left : (holds : List Hold) (tx : ℕ) (addr : Addr) → hold_of holds tx addr ≡ None
    → without_hold holds tx addr ≡ holds
none_left [] tx addr h = refl
none_left (hold ∷ holds) tx addr h =
    elim (cases_Bool (is_hold_of tx addr hold)) as (λ _. without_hold (hold ∷ holds) tx addr ≡ hold ∷ holds) [
      | inl mine ↦ let e = rw mine at h in cc
      | inr other ↦
          let rest = rw other at h in
          rw other (ap (λ (hs : List Hold). hold ∷ hs) (none_left holds tx addr rest))
    ]
