-- What goes where a transaction's hold of an address goes.
use Rattle.std.proofs.Common.{◌≡◌, ℕ, zero, suc, ◌-◌, ◌<◌, List, [], ◌∷◌, length, get_or}
use Rattle.std.proofs.Common.{refl, sym, ap, ◌∙◌, arith, subst, cond, Bool, true, false, None, not}
use Rattle.std.specs.List.{remove}
use Rattle.std.proofs.lemmas.Bool.{true≢false}
use Rattle.objects.specs.declared.addr.Addr.{Addr}
use Rattle.txn_law.specs.Holds.{hold_of, is_hold_of, without_hold}
use Rattle.txn_law.specs.WellFormed.{AreApart, AreCompatible}
use Rattle.txn_law.specs.declared.hold.Hold.{Hold}
use Rattle.locks.specs.Looks.{IsNameOf}
use Rattle.locks.proofs.NoneLeft.{none_left}
use Rattle.locks.proofs.Walks.{find_none, twice}

-- the one at this place goes
pub one_gone : (holds : List Hold) (tx : ℕ) (addr : Addr) (k : ℕ) (d : Hold) → AreApart holds → k < length holds
    → is_hold_of tx addr (get_or holds k d) ≡ true → without_hold holds tx addr ≡ remove holds k
one_gone [] tx addr k d apart lt it = absurd (omega (arith, lt))
one_gone (x ∷ xs) tx addr k d apart lt it =
    go (λ j. one_gone xs tx addr j d apart.1) (is_hold_of tx addr x) refl k lt it
  where
    other : is_hold_of tx addr x ≡ true → (y : Hold) → AreCompatible x y → (t : Bool) → is_hold_of tx addr y ≡ t
        → is_hold_of tx addr y ≡ false
    other is y compatible true e = absurd (twice tx addr x y compatible is e)
    other is y compatible false e = e

    none : is_hold_of tx addr x ≡ true → hold_of xs tx addr ≡ None
    none is = find_none (is_hold_of tx addr) xs
        (λ j e less. other is (get_or xs j e) (apart.0 j e less) (is_hold_of tx addr (get_or xs j e)) refl)

    go : ((j : ℕ) → j < length xs → is_hold_of tx addr (get_or xs j d) ≡ true
        → without_hold xs tx addr ≡ remove xs j) → (t : Bool) → is_hold_of tx addr x ≡ t → (k : ℕ)
        → k < length (x ∷ xs) → is_hold_of tx addr (get_or (x ∷ xs) k d) ≡ true
        → cond (not t) (x ∷ without_hold xs tx addr) (without_hold xs tx addr) ≡ remove (x ∷ xs) k
    go rest true is zero lt it = none_left xs tx addr (none is)
    go rest true is (suc k) lt it =
        absurd (twice tx addr x (get_or xs k d) (apart.0 k d (omega (arith, lt))) is it)
    go rest false is zero lt it = absurd (true≢false (sym it ∙ is))
    go rest false is (suc k) lt it = ap (λ (hs : List Hold). x ∷ hs) (rest k (omega (arith, lt)) it)

-- the one of this name goes
pub named_gone : (holds seen : List Hold) (tx : ℕ) (addr : Addr) (name : ℕ) (d : Hold) → AreApart holds → seen ≡ holds
    → IsNameOf seen tx addr name → 0 < name → remove holds (name - 1) ≡ without_hold holds tx addr
named_gone holds seen tx addr name d apart same is some =
    let here = subst (λ (hs : List Hold). IsNameOf hs tx addr name) same is in
    let within = here.within in
    sym (one_gone holds tx addr (name - 1) d apart (omega (arith, some, within)) (here.mine some d))
