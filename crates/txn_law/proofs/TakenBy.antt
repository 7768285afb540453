-- Lemmas: what a transaction has taken of an address.
use Rattle.std.proofs.Common.{◌≡◌, ℕ, Bool, true, false, not, cond, if◌then◌else◌, nat_eq, List, [], ◌∷◌}
use Rattle.std.proofs.Common.{Option, Some, None, refl, sym, ap, ◌∙◌}
use Rattle.std.specs.List.{find}
use Rattle.std.proofs.lemmas.Bool.{eqb-true, eq-eqb}
use Rattle.objects.specs.declared.addr.Addr.{Addr}
use Rattle.txn_law.specs.Holds.{is_hold_of, hold_of, without_hold, joined, with_hold, released}
use Rattle.txn_law.specs.declared.hold.Hold.{Hold}
use Rattle.txn_law.proofs.Claims.{all_four}
use Rattle.objects.proofs.Found.{find_push_none, find_push_other, find_none_retained, find_through}

find_same : {X : Type 0} (p q : X → Bool) (xs : List X) → ((x : X) → p x ≡ q x) → find p xs ≡ find q xs
find_same p q [] same = refl
find_same p q (x ∷ xs) same =
    ap (λ (b : Bool). cond b (Some x) (find p xs)) (same x)
    ∙ ap (λ o. cond (q x) (Some x) o) (find_same p q xs same)

pub is_hold_by : (tx : ℕ) (addr : Addr) (x : Hold) → x.transaction ≡ tx → x.addr.block.0 ≡ addr.block.0
    → x.addr.offset ≡ addr.offset → x.addr.len ≡ addr.len → is_hold_of tx addr x ≡ true
is_hold_by tx addr x same block offset len =
    let a = eq-eqb x.transaction tx same in
    let b = eq-eqb x.addr.block.0 addr.block.0 block in
    let o = eq-eqb x.addr.offset addr.offset offset in
    let l = eq-eqb x.addr.len addr.len len in
    rw (a, b, o, l) refl

-- two holds that each are this transaction's of this address are one another's
pub is_hold_both : (tx : ℕ) (addr : Addr) (x y : Hold) → is_hold_of tx addr x ≡ true
    → is_hold_of tx addr y ≡ true
    → is_hold_of y.transaction y.addr x ≡ true
is_hold_both tx addr x y one other =
    let a = all_four (nat_eq x.transaction tx) (nat_eq x.addr.block.0 addr.block.0)
    (nat_eq x.addr.offset addr.offset) (nat_eq x.addr.len addr.len) one in
    let b = all_four (nat_eq y.transaction tx) (nat_eq y.addr.block.0 addr.block.0)
    (nat_eq y.addr.offset addr.offset) (nat_eq y.addr.len addr.len) other in
    is_hold_by y.transaction y.addr x
    (eqb-true x.transaction tx a.0 ∙ sym (eqb-true y.transaction tx b.0))
    (eqb-true x.addr.block.0 addr.block.0 a.1 ∙ sym (eqb-true y.addr.block.0 addr.block.0 b.1))
    (eqb-true x.addr.offset addr.offset a.2 ∙ sym (eqb-true y.addr.offset addr.offset b.2))
    (eqb-true x.addr.len addr.len a.3 ∙ sym (eqb-true y.addr.len addr.len b.3))

module _ (holds : List Hold) (hold : Hold) (t : ℕ) (a : Addr) where
  -- the test of the hold's own transaction and address
  abbrev own : Hold → Bool
  own = is_hold_of hold.transaction hold.addr

  -- what the hold becomes beside one that there was
  abbrev made : Hold
  made = joined (hold_of holds hold.transaction hold.addr) hold

  same_test : is_hold_of t a hold ≡ true → (x : Hold) → is_hold_of t a x ≡ own x
  same_test mine x = go (is_hold_of t a x) refl (own x) refl
    where
      go : (u : Bool) → is_hold_of t a x ≡ u → (v : Bool) → own x ≡ v → u ≡ v
      go true one true other = refl
      go false one false other = refl
      go true one false other =
          absurd (let yes : own x ≡ true = is_hold_both t a x hold one mine in cc)
      go false one true other =
          let b = all_four (nat_eq hold.transaction t) (nat_eq hold.addr.block.0 a.block.0)
          (nat_eq hold.addr.offset a.offset) (nat_eq hold.addr.len a.len) mine in
          let c = all_four (nat_eq x.transaction hold.transaction) (nat_eq x.addr.block.0 hold.addr.block.0)
          (nat_eq x.addr.offset hold.addr.offset) (nat_eq x.addr.len hold.addr.len) other in
          absurd (let yes : is_hold_of t a x ≡ true = is_hold_by t a x
          (eqb-true x.transaction hold.transaction c.0 ∙ eqb-true hold.transaction t b.0)
          (eqb-true x.addr.block.0 hold.addr.block.0 c.1 ∙ eqb-true hold.addr.block.0 a.block.0 b.1)
          (eqb-true x.addr.offset hold.addr.offset c.2 ∙ eqb-true hold.addr.offset a.offset b.2)
          (eqb-true x.addr.len hold.addr.len c.3 ∙ eqb-true hold.addr.len a.len b.3) in cc)

  -- the new hold stands where the old one stood
  made_at : (tx : ℕ) (addr : Addr) → is_hold_of tx addr made ≡ is_hold_of tx addr hold
  made_at tx addr = go (hold_of holds hold.transaction hold.addr)
    where
      go : (had : Option Hold) → is_hold_of tx addr (joined had hold) ≡ is_hold_of tx addr hold
      go None = refl
      go (Some h) = refl

  pub taken_with : hold_of (with_hold holds hold) t a
      ≡ (if is_hold_of t a hold then Some (joined (hold_of holds t a) hold) else hold_of holds t a)
  taken_with = go (is_hold_of t a hold) refl
    where
      go : (u : Bool) → is_hold_of t a hold ≡ u → hold_of (with_hold holds hold) t a
          ≡ (if u then Some (joined (hold_of holds t a) hold) else hold_of holds t a)
      go true mine =
          find_same (is_hold_of t a) own (with_hold holds hold) (same_test mine)
          ∙ find_push_none own (without_hold holds hold.transaction hold.addr) (made ∷ [])
          (find_none_retained own (λ x. not (own x)) holds (λ x is. ap not is))
          ∙ ap (λ (b : Bool). cond b (Some made) None)
          (made_at hold.transaction hold.addr ∙ is_hold_by hold.transaction hold.addr hold refl refl refl refl)
          ∙ ap (λ (o : Option Hold). Some (joined o hold))
          (sym (find_same (is_hold_of t a) own holds (same_test mine)))
      go false mine =
          find_push_other (is_hold_of t a) (without_hold holds hold.transaction hold.addr) made
          (made_at t a ∙ mine)
          ∙ find_through (is_hold_of t a) (λ x. not (own x)) holds (λ x is. away x is (own x) refl)
        where
          away : (x : Hold) → is_hold_of t a x ≡ true → (v : Bool) → own x ≡ v → not v ≡ true
          away x is false e = refl
          away x is true e =
              let b = all_four (nat_eq x.transaction t) (nat_eq x.addr.block.0 a.block.0)
              (nat_eq x.addr.offset a.offset) (nat_eq x.addr.len a.len) is in
              let c = all_four (nat_eq x.transaction hold.transaction) (nat_eq x.addr.block.0 hold.addr.block.0)
              (nat_eq x.addr.offset hold.addr.offset) (nat_eq x.addr.len hold.addr.len) e in
              absurd (let yes : is_hold_of t a hold ≡ true = is_hold_by t a hold
              (sym (eqb-true x.transaction hold.transaction c.0) ∙ eqb-true x.transaction t b.0)
              (sym (eqb-true x.addr.block.0 hold.addr.block.0 c.1) ∙ eqb-true x.addr.block.0 a.block.0 b.1)
              (sym (eqb-true x.addr.offset hold.addr.offset c.2) ∙ eqb-true x.addr.offset a.offset b.2)
              (sym (eqb-true x.addr.len hold.addr.len c.3) ∙ eqb-true x.addr.len a.len b.3) in cc)

-- what is left once a transaction has ended
pub taken_released : (holds : List Hold) (tx t : ℕ) (a : Addr)
    → hold_of (released holds tx) t a ≡ (if nat_eq t tx then None else hold_of holds t a)
taken_released holds tx t a = go (nat_eq t tx) refl
  where
    by : (x : Hold) → is_hold_of t a x ≡ true → x.transaction ≡ t
    by x mine = let four = all_four (nat_eq x.transaction t) (nat_eq x.addr.block.0 a.block.0)
        (nat_eq x.addr.offset a.offset) (nat_eq x.addr.len a.len) mine in eqb-true x.transaction t four.0

    go : (u : Bool) → nat_eq t tx ≡ u
        → hold_of (released holds tx) t a ≡ (if u then None else hold_of holds t a)
    go true same =
        find_none_retained (is_hold_of t a) (λ hold. not (nat_eq hold.transaction tx)) holds
        (λ x mine. ap not (eq-eqb x.transaction tx (by x mine ∙ eqb-true t tx same)))
    go false other =
        find_through (is_hold_of t a) (λ hold. not (nat_eq hold.transaction tx)) holds
        (λ x mine. ap not (ap (λ n. nat_eq n tx) (by x mine) ∙ other))
