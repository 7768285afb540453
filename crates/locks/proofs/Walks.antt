-- A walk through the holds of a block tells of all holds.
use Rattle.std.proofs.Common.{◌≡◌, ◌≢◌, ℕ, zero, suc, ◌-◌, ◌<◌, List, [], ◌∷◌, length, Some, None, inl, inr}
use Rattle.std.proofs.Common.{refl, sym, ap, ◌∙◌, arith, subst, slice_index, get_or, cond, Bool, true, false, nat_eq, ◌&&◌}
use Rattle.std.specs.List.{find}
use Rattle.std.proofs.lemmas.Bool.{cases_eq, cases_lt, eqb-true, true≢false}
use Rattle.objects.specs.Addr.{Overlap}
use Rattle.objects.specs.declared.addr.Addr.{Addr}
use Rattle.objects.specs.declared.mode.Mode.{Mode}
use Rattle.txn_law.specs.Holds.{IsFree, hold_of, is_hold_of}
use Rattle.txn_law.specs.WellFormed.{AreApart, AreCompatible}
use Rattle.txn_law.specs.declared.hold.Hold.{Hold}
use Rattle.txn_law.proofs.Again.{same_addr}
use Rattle.locks.specs.Index.{IsIndex, IsLast, numbers}
use Rattle.locks.specs.Looks.{LetsPass}
use Rattle.locks.specs.Walks.{IsPassed}
use Rattle.locks.proofs.Apart.{overlaps_itself}
use Rattle.locks.proofs.IndexLemmas.{numbers-at, numbers-length, passed_on}

-- before the first step
pub begun : (P : Hold → Type 0) (holds : List Hold) (block name : ℕ) → IsLast (numbers holds) block name
    → IsPassed P holds block name
begun P holds block name is = record {
  within = (let w = is.within in let l = numbers-length holds in omega (arith, w, l));
  there = is.there;
  passed = λ k d from lt e.
      absurd (is.last k from (let l = numbers-length holds in omega (arith, lt, l)) (numbers-at holds k d lt ∙ e));
}

-- what is there doesn't go by what stands for none
pub default : (xs : List Hold) (k : ℕ) (d e : Hold) → k < length xs → get_or xs k d ≡ get_or xs k e
default [] k d e lt = absurd (omega (arith, lt))
default (x ∷ xs) zero d e lt = refl
default (x ∷ xs) (suc k) d e lt = default xs k d e (omega (arith, lt))

-- one step
pub stepped : (P : Hold → Type 0) (holds : List Hold) (last before : List ℕ) (block name next : ℕ) (d : Hold)
    → IsIndex (numbers holds) last before → IsPassed P holds block name → 0 < name
    → next ≡ slice_index before (name - 1) → P (get_or holds (name - 1) d) → IsPassed P holds block next
stepped P holds last before block name next d index is some comes here =
    let size = numbers-length holds in
    let within = is.within in
    let on = passed_on (numbers holds) last before block name index some (omega (arith, within, size)) (is.there some) in
    let less : next < name = (let l = on.0 in omega (arith, l, comes)) in
    record {
      within = omega (arith, less, within);
      there = λ more. subst (λ (n : ℕ). 0 < n → slice_index (numbers holds) (n - 1) ≡ block) (sym comes) on.1 more;
      passed = λ k e from lt same.
          elim (cases_lt k (name - 1)) as (λ _. P (get_or holds k e)) [
            | inl below ↦
                absurd (on.2 k (omega (arith, from, comes)) below (numbers-at holds k e lt ∙ same))
            | inr above ↦
                elim (cases_eq k (name - 1)) as (λ _. P (get_or holds k e)) [
                  | inl at ↦
                      let this : get_or holds (name - 1) d ≡ get_or holds k e =
                      default holds (name - 1) d e (omega (arith, within, some)) ∙ ap (λ (n : ℕ). get_or holds n e) (sym at) in
                      subst P this here
                  | inr other ↦ is.passed k e (omega (arith, above, other, some)) lt same
                ]
          ];
    }

-- behind the last step
pub all_free : (holds : List Hold) (tx : ℕ) (addr : Addr) (mode : Mode)
    → IsPassed (LetsPass tx addr mode) holds addr.block.0 0 → IsFree holds tx addr mode
all_free holds tx addr mode is = record {
  others = λ k d lt over. is.passed k d (omega arith) lt (ap (λ b. b.0) over.0) over;
}

split : (a b : Bool) → (a && b) ≡ true → (a ≡ true) × (b ≡ true)
split true b e = (refl, e)
split false b e = absurd (cc)

-- what the test says
pub four : (tx : ℕ) (addr : Addr) (hold : Hold) → is_hold_of tx addr hold ≡ true → (nat_eq hold.transaction tx ≡ true)
    × (nat_eq hold.addr.block.0 addr.block.0 ≡ true) × (nat_eq hold.addr.offset addr.offset ≡ true)
    × (nat_eq hold.addr.len addr.len ≡ true)
four tx addr hold e =
    let one = split (nat_eq hold.transaction tx && nat_eq hold.addr.block.0 addr.block.0
    && nat_eq hold.addr.offset addr.offset) (nat_eq hold.addr.len addr.len) e in
    let two = split (nat_eq hold.transaction tx && nat_eq hold.addr.block.0 addr.block.0)
    (nat_eq hold.addr.offset addr.offset) one.0 in
    let three = split (nat_eq hold.transaction tx) (nat_eq hold.addr.block.0 addr.block.0) two.0 in
    (three.0, three.1, two.1, one.1)

-- another block's hold isn't it
other_block : (tx : ℕ) (addr : Addr) (hold : Hold) → hold.addr.block.0 ≢ addr.block.0
    → is_hold_of tx addr hold ≡ false
other_block tx addr hold ne = go (is_hold_of tx addr hold) refl
  where
    go : (t : Bool) → is_hold_of tx addr hold ≡ t → is_hold_of tx addr hold ≡ false
    go false e = e
    go true e = absurd (ne (eqb-true hold.addr.block.0 addr.block.0 (four tx addr hold e).1))

pub find_none : (p : Hold → Bool) (xs : List Hold)
    → ((k : ℕ) (d : Hold) → k < length xs → p (get_or xs k d) ≡ false) → find p xs ≡ None
find_none p [] h = refl
find_none p (x ∷ xs) h =
    ap (λ t. cond t (Some x) (find p xs)) (h zero x (omega arith))
    ∙ find_none p xs (λ k d lt. h (suc k) d (omega (arith, lt)))

pub none_held : (holds : List Hold) (tx : ℕ) (addr : Addr)
    → IsPassed (λ hold. is_hold_of tx addr hold ≡ false) holds addr.block.0 0 → None ≡ hold_of holds tx addr
none_held holds tx addr is =
    sym (find_none (is_hold_of tx addr) holds
    (λ k d lt. elim (cases_eq (get_or holds k d).addr.block.0 addr.block.0) as (λ _. is_hold_of tx addr (get_or holds k d)
    ≡ false) [
      | inl same ↦ is.passed k d (omega arith) lt same
      | inr other ↦ other_block tx addr (get_or holds k d) other
    ]))

-- it has one hold of an address
pub twice : (tx : ℕ) (addr : Addr) (x y : Hold) → AreCompatible x y → is_hold_of tx addr x ≡ true
    → is_hold_of tx addr y ≡ true → ⊥
twice tx addr x y compatible one two =
    let a = four tx addr x one in
    let b = four tx addr y two in
    let same : x.addr ≡ y.addr = same_addr x.addr y.addr
    (eqb-true x.addr.block.0 addr.block.0 a.1 ∙ sym (eqb-true y.addr.block.0 addr.block.0 b.1))
    (eqb-true x.addr.offset addr.offset a.2 ∙ sym (eqb-true y.addr.offset addr.offset b.2))
    (eqb-true x.addr.len addr.len a.3 ∙ sym (eqb-true y.addr.len addr.len b.3)) in
    compatible (subst (λ (at : Addr). Overlap x.addr at) same (overlaps_itself x.addr))
    (inl (eqb-true x.transaction tx a.0 ∙ sym (eqb-true y.transaction tx b.0)))

-- a hold of the address is the transaction's one
pub one_held : (holds : List Hold) (tx : ℕ) (addr : Addr) (k : ℕ) (d : Hold) → AreApart holds → k < length holds
    → is_hold_of tx addr (get_or holds k d) ≡ true → Some (get_or holds k d) ≡ hold_of holds tx addr
one_held [] tx addr k d apart lt it = absurd (omega (arith, lt))
one_held (x ∷ xs) tx addr k d apart lt it =
    go (λ j. one_held xs tx addr j d apart.1) (is_hold_of tx addr x) refl k lt it
  where
    go : ((j : ℕ) → j < length xs → is_hold_of tx addr (get_or xs j d) ≡ true
        → Some (get_or xs j d) ≡ hold_of xs tx addr) → (t : Bool) → is_hold_of tx addr x ≡ t → (k : ℕ)
        → k < length (x ∷ xs)
        → is_hold_of tx addr (get_or (x ∷ xs) k d) ≡ true
        → Some (get_or (x ∷ xs) k d) ≡ cond t (Some x) (hold_of xs tx addr)
    go rest true is zero lt it = refl
    go rest true is (suc k) lt it = absurd (twice tx addr x (get_or xs k d) (apart.0 k d (omega (arith, lt))) is it)
    go rest false is zero lt it = absurd (true≢false (sym it ∙ is))
    go rest false is (suc k) lt it = rest k (omega (arith, lt)) it
