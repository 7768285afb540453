-- Lemmas: how often blocks are pinned, as holds and kept commits come and go.
use Rattle.std.proofs.Common.{◌≡◌, refl, ap, sym, ◌∙◌, ℕ, ◌+◌, ◌<◌, ◌≤◌, zero, suc, Bool, true, false, not}
use Rattle.std.proofs.Common.{cond, ◌||◌, if◌then◌else◌, nat_eq, nat_lt, List, [], ◌∷◌, ◌++◌, All, map}
use Rattle.std.proofs.Common.{Option, Some, None, is_none, get_or, take, length, arith, inl}
use Rattle.std.proofs.lemmas.Bool.{lt-ltb, eqb-true, eq-eqb}
use Rattle.std.proofs.lemmas.Bool.Decides.{nat_tests}
use Rattle.std.proofs.lemmas.List.{take_more}
use Rattle.std.proofs.lemmas.List.Elements.{All-head, All-tail}
use Rattle.std.specs.List.{list_any, filter}
use Rattle.std.specs.Prelude.{is_some}
use Rattle.disk.specs.declared.block.BlockNo.{BlockNo}
use Rattle.objects.specs.Object.{ObjectBytes}
use Rattle.objects.specs.Pins.{is_wanted, once_at, spared}
use Rattle.objects.specs.declared.addr.Addr.{Addr}
use Rattle.objects.specs.declared.present.Present.{Present}
use Rattle.objects.proofs.Residents.{same_block}
use Rattle.circ.specs.Log.Log.{Log, installed_place}
use Rattle.txn_law.specs.Commit.{Planned, footprint, with_record}
use Rattle.txn_law.specs.Core.{past}
use Rattle.txn_law.specs.Holds.{is_taken, is_read, is_hold_of, hold_of, without_hold, joined, with_hold, released}
use Rattle.txn_law.specs.Records.{lies_in, is_read_by_uninstalled, is_needed, swept}
use Rattle.txn_law.specs.WellFormed.{AreApart, AreCompatible}
use Rattle.txn_law.specs.Window.{Footprint}
use Rattle.txn_law.specs.declared.hold.Hold.{Hold}
use Rattle.txn_law.proofs.Claims.{all_four}
use Rattle.txn.specs.Pinned.{total, block_of_each, count_in, holds_in, own_in, newly_in, objects_in, reads_in}

pub total-append : {X : Type 0} (count : X → ℕ) (xs ys : List X)
    → total count (xs ++ ys) ≡ total count xs + total count ys
total-append count [] ys = omega arith
total-append count (x ∷ xs) ys = let e = total-append count xs ys in omega (arith, e)

pub total-filter : {X : Type 0} (p : X → Bool) (count : X → ℕ) (xs : List X)
    → total count xs ≡ total count (filter p xs) + total (λ x. if p x then 0 else count x) xs
total-filter p count [] = refl
total-filter p count (x ∷ xs) = go (p x) (total-filter p count xs)
  where
    go : (t : Bool) → total count xs ≡ total count (filter p xs) + total (λ x. if p x then 0 else count x) xs
        → count x + total count xs ≡ total count (cond t (x ∷ filter p xs) (filter p xs))
        + ((if t then 0 else count x) + total (λ x. if p x then 0 else count x) xs)
    go true e = omega (arith, e)
    go false e = omega (arith, e)

pub total-map : {X Y : Type 0} (f : X → Y) (count : Y → ℕ) (xs : List X)
    → total count (map f xs) ≡ total (λ x. count (f x)) xs
total-map f count [] = refl
total-map f count (x ∷ xs) = ap (λ n. count (f x) + n) (total-map f count xs)

pub total_more : {X : Type 0} (count : X → ℕ) (xs : List X) (i : ℕ) (d : X) → i < length xs
    → total count (take (i + 1) xs) ≡ total count (take i xs) + count (get_or xs i d)
total_more count xs i d lt =
    let e = ap (total count) (take_more xs i d lt) ∙ total-append count (take i xs) (get_or xs i d ∷ []) in
    omega (arith, e)

or_sum : (a b : ℕ) → (nat_lt 0 a || nat_lt 0 b) ≡ nat_lt 0 (a + b)
or_sum zero b = let e : b ≡ 0 + b = omega arith in ap (nat_lt 0) e
or_sum (suc a) b =
    ap (λ t. t || nat_lt 0 b) (lt-ltb 0 (suc a) (omega arith)) ∙ sym (lt-ltb 0 (suc a + b) (omega arith))

-- somebody passes just where there is something to count
any_total : {X : Type 0} (p : X → Bool) (count : X → ℕ) → ((x : X) → p x ≡ nat_lt 0 (count x)) → (xs : List X)
    → list_any p xs ≡ nat_lt 0 (total count xs)
any_total p count same [] = refl
any_total p count same (x ∷ xs) =
    ap (λ t. t || list_any p xs) (same x) ∙ ap (λ t. nat_lt 0 (count x) || t) (any_total p count same xs)
    ∙ or_sum (count x) (total count xs)

flip : (a b : ℕ) → nat_eq a b ≡ nat_eq b a
flip a b = grind (arith, nat_tests)

once_some : (block at : BlockNo) → nat_eq block.0 at.0 ≡ nat_lt 0 (once_at block at)
once_some block at = flip block.0 at.0 ∙ go (nat_eq at.0 block.0)
  where
    go : (t : Bool) → t ≡ nat_lt 0 (if t then 1 else 0)
    go true = refl
    go false = refl

pub taken_is : (holds : List Hold) (at : BlockNo) → is_taken holds at ≡ nat_lt 0 (holds_in holds at)
taken_is holds at =
    any_total (λ (hold : Hold). nat_eq hold.addr.block.0 at.0) (λ (hold : Hold). once_at hold.addr.block at)
    (λ hold. once_some hold.addr.block at) holds

pub read_by_uninstalled_is : (records : List Footprint) (at : BlockNo) → is_read_by_uninstalled records at ≡ nat_lt 0 (reads_in records at)
read_by_uninstalled_is records at =
    any_total (λ (kept : Footprint). lies_in kept.read at) (λ (kept : Footprint). objects_in kept.read at)
    (λ kept. any_total (λ (object : ObjectBytes). nat_eq object.addr.block.0 at.0)
    (λ (object : ObjectBytes). once_at object.addr.block at) (λ object. once_some object.addr.block at) kept.read)
    records

-- what is pinned, or being fetched, is needed
pub wanted_is : (holds : List Hold) (records : List Footprint) (pins : BlockNo → ℕ)
    → ((at : BlockNo) → pins at ≡ holds_in holds at + reads_in records at) → (resident : Present)
    → is_wanted pins resident ≡ is_needed holds records resident
wanted_is holds records pins counted resident =
    ap (λ t. is_none resident.content || t) (each resident.block)
    ∙ or_assoc (is_none resident.content) (is_taken holds resident.block) (is_read_by_uninstalled records resident.block)
  where
    or_assoc : (u a b : Bool) → (u || (a || b)) ≡ ((u || a) || b)
    or_assoc true a b = refl
    or_assoc false a b = refl

    each : (at : BlockNo) → nat_lt 0 (pins at) ≡ (is_taken holds at || is_read_by_uninstalled records at)
    each at =
        ap (nat_lt 0) (counted at) ∙ sym (or_sum (holds_in holds at) (reads_in records at))
        ∙ ap (λ t. t || nat_lt 0 (reads_in records at)) (sym (taken_is holds at))
        ∙ ap (λ t. is_taken holds at || t) (sym (read_by_uninstalled_is records at))

-- so it is what a sweep leaves, besides what is spared
pub swept_is : (spare : Present → Bool) (holds : List Hold) (records : List Footprint) (pins : BlockNo → ℕ)
    (blocks : List Present) → ((at : BlockNo) → pins at ≡ holds_in holds at + reads_in records at)
    → spared spare pins blocks ≡ swept spare holds records blocks
swept_is spare holds records pins blocks counted =
    λ i. filter (λ resident. spare resident || wanted_is holds records pins counted resident i) blocks

-- and the others are what nobody needs
pub unneeded_is : (holds : List Hold) (records : List Footprint) (pins : BlockNo → ℕ) (blocks : List Present)
    → ((at : BlockNo) → pins at ≡ holds_in holds at + reads_in records at)
    → filter (λ resident. not (is_wanted pins resident)) blocks
    ≡ filter (λ resident. not (is_needed holds records resident)) blocks
unneeded_is holds records pins blocks counted =
    λ i. filter (λ resident. not (wanted_is holds records pins counted resident i)) blocks

-- A hold more.
joined_addr : (had : Option Hold) (hold : Hold) → (joined had hold).addr ≡ hold.addr
joined_addr None hold = refl
joined_addr (Some had) hold = refl

-- two holds of a transaction are of two addresses
not_both : (tx : ℕ) (addr : Addr) (x y : Hold) → AreCompatible x y → is_hold_of tx addr x ≡ true
    → is_hold_of tx addr y ≡ true → ⊥
not_both tx addr x y compatible one other =
    let a = all_four (nat_eq x.transaction tx) (nat_eq x.addr.block.0 addr.block.0)
    (nat_eq x.addr.offset addr.offset) (nat_eq x.addr.len addr.len) one in
    let b = all_four (nat_eq y.transaction tx) (nat_eq y.addr.block.0 addr.block.0)
    (nat_eq y.addr.offset addr.offset) (nat_eq y.addr.len addr.len) other in
    let block : x.addr.block ≡ y.addr.block =
    same_block x.addr.block y.addr.block (eqb-true x.addr.block.0 addr.block.0 a.1
    ∙ sym (eqb-true y.addr.block.0 addr.block.0 b.1)) in
    let from = eqb-true x.addr.offset addr.offset a.2 ∙ sym (eqb-true y.addr.offset addr.offset b.2) in
    compatible (block, omega (arith, from, y.addr.some), omega (arith, from, x.addr.some))
    (inl (eqb-true x.transaction tx a.0 ∙ sym (eqb-true y.transaction tx b.0)))

abbrev as_one : Bool → ℕ
as_one t = if t then 1 else 0

one_at_itself : (b n : ℕ) → n ≡ b → as_one (nat_eq b n) ≡ 1
one_at_itself b n e = ap as_one (eq-eqb b n (sym e))

-- the block of what a transaction has taken is held
pub held_some : (tx : ℕ) (addr : Addr) (holds : List Hold) → is_some (hold_of holds tx addr) ≡ true
    → 0 < holds_in holds addr.block
held_some tx addr [] e = absurd (cc)
held_some tx addr (x ∷ xs) e = go (is_hold_of tx addr x) refl (held_some tx addr xs) e
  where
    go : (t : Bool) → is_hold_of tx addr x ≡ t
        → (is_some (hold_of xs tx addr) ≡ true → 0 < holds_in xs addr.block)
        → is_some (cond t (Some x) (hold_of xs tx addr)) ≡ true
        → 0 < once_at x.addr.block addr.block + holds_in xs addr.block
    go true is rest e =
        let four = all_four (nat_eq x.transaction tx) (nat_eq x.addr.block.0 addr.block.0)
        (nat_eq x.addr.offset addr.offset) (nat_eq x.addr.len addr.len) is in
        let one : once_at x.addr.block addr.block ≡ 1 =
        one_at_itself addr.block.0 x.addr.block.0 (eqb-true x.addr.block.0 addr.block.0 four.1) in
        omega (arith, one)
    go false is rest e = let some = rest e in omega (arith, some)

module _ (tx : ℕ) (addr : Addr) (at : BlockNo) where
  abbrev own : Hold → Bool
  own hold = is_hold_of tx addr hold

  -- a hold counts where it is the transaction's of the address
  abbrev counts : Hold → ℕ
  counts hold = if not (own hold) then 0 else once_at hold.addr.block at

  none_later : (x : Hold) (xs : List Hold) → own x ≡ true → All (AreCompatible x) xs → total counts xs ≡ 0
  none_later x [] mine h = refl
  none_later x (y ∷ ys) mine h =
      go (own y) refl (none_later x ys mine (All-tail (AreCompatible x) y ys h))
    where
      go : (t : Bool) → own y ≡ t → total counts ys ≡ 0 → counts y + total counts ys ≡ 0
      go true e rest = absurd (not_both tx addr x y (All-head (AreCompatible x) y ys h) mine e)
      go false e rest =
          let none : counts y ≡ 0 = ap (λ t. if not t then 0 else once_at y.addr.block at) e in
          omega (arith, none, rest)

  of_address : (x : Hold) → own x ≡ true → once_at x.addr.block at ≡ once_at addr.block at
  of_address x mine =
      let a = all_four (nat_eq x.transaction tx) (nat_eq x.addr.block.0 addr.block.0)
      (nat_eq x.addr.offset addr.offset) (nat_eq x.addr.len addr.len) mine in
      ap (λ (n : ℕ). if nat_eq at.0 n then 1 else 0) (eqb-true x.addr.block.0 addr.block.0 a.1)

  pub one_at_most : (holds : List Hold) → AreApart holds
      → total counts holds ≡ (if is_some (hold_of holds tx addr) then once_at addr.block at else 0)
  one_at_most [] apart = refl
  one_at_most (x ∷ xs) apart = go (own x) refl (one_at_most xs apart.1)
    where
      go : (t : Bool) → own x ≡ t
          → total counts xs ≡ (if is_some (hold_of xs tx addr) then once_at addr.block at else 0)
          → (if not t then 0 else once_at x.addr.block at) + total counts xs
          ≡ (if is_some (cond t (Some x) (hold_of xs tx addr)) then once_at addr.block at else 0)
      go true e rest =
          let none = none_later x xs e apart.0 in
          let one = of_address x e in omega (arith, none, one)
      go false e rest = omega (arith, rest)

  -- what is taken is pinned
  pub held_pinned : (holds : List Hold) → is_some (hold_of holds tx addr) ≡ true → 0 < holds_in holds addr.block
  held_pinned [] e = absurd cc
  held_pinned (x ∷ xs) e = go (own x) refl (held_pinned xs) e
    where
      go : (t : Bool) → own x ≡ t → (is_some (hold_of xs tx addr) ≡ true → 0 < holds_in xs addr.block)
          → is_some (cond t (Some x) (hold_of xs tx addr)) ≡ true
          → 0 < once_at x.addr.block addr.block + holds_in xs addr.block
      go true mine rest e =
          let a = all_four (nat_eq x.transaction tx) (nat_eq x.addr.block.0 addr.block.0)
          (nat_eq x.addr.offset addr.offset) (nat_eq x.addr.len addr.len) mine in
          let one : once_at x.addr.block addr.block ≡ 1 =
          one_at_itself addr.block.0 x.addr.block.0 (eqb-true x.addr.block.0 addr.block.0 a.1) in
          omega (arith, one)
      go false mine rest e = let some = rest e in omega (arith, some)

pub read_is_held : (had : Option Hold) → is_read had ≡ true → is_some had ≡ true
read_is_held None e = absurd cc
read_is_held (Some hold) e = refl

pub counted_with : (holds : List Hold) (hold : Hold) (at : BlockNo) → AreApart holds
    → holds_in (with_hold holds hold) at ≡ holds_in holds at + newly_in holds hold at
counted_with holds hold at apart =
    let count : Hold → ℕ = λ (had : Hold). once_at had.addr.block at in
    let rest : List Hold = without_hold holds hold.transaction hold.addr in
    let one : Hold = joined (hold_of holds hold.transaction hold.addr) hold in
    let parts : holds_in (with_hold holds hold) at ≡ total count rest + (once_at hold.addr.block at + 0) =
    total-append count rest (one ∷ [])
    ∙ ap (λ (addr : Addr). total count rest + (once_at addr.block at + 0))
    (joined_addr (hold_of holds hold.transaction hold.addr) hold) in
    let whole = total-filter (λ had. not (is_hold_of hold.transaction hold.addr had)) count holds in
    let single = one_at_most hold.transaction hold.addr at holds apart in
    go (is_some (hold_of holds hold.transaction hold.addr)) (total count rest)
    (total (counts hold.transaction hold.addr at) holds) parts whole single
  where
    go : (t : Bool) (left gone : ℕ)
        → holds_in (with_hold holds hold) at ≡ left + (once_at hold.addr.block at + 0)
        → holds_in holds at ≡ left + gone
        → gone ≡ (if t then once_at hold.addr.block at else 0)
        → holds_in (with_hold holds hold) at
        ≡ holds_in holds at + (if t then 0 else once_at hold.addr.block at)
    go true left gone parts whole single = omega (arith, parts, whole, single)
    go false left gone parts whole single = omega (arith, parts, whole, single)

-- the transaction's holds go
pub counted_released : (holds : List Hold) (tx : ℕ) (at : BlockNo)
    → holds_in holds at ≡ holds_in (released holds tx) at + own_in tx holds at
counted_released holds tx at =
    total-filter (λ (hold : Hold). not (nat_eq hold.transaction tx)) (λ (hold : Hold). once_at hold.addr.block at)
    holds

-- the commits up to a place go
pub counted_past : (records : List Footprint) (place : ℕ) (at : BlockNo)
    → reads_in records at ≡ reads_in (past place records) at
    + total (λ kept. if nat_lt place kept.place then 0 else objects_in kept.read at) records
counted_past records place at =
    total-filter (λ (kept : Footprint). nat_lt place kept.place)
    (λ (kept : Footprint). objects_in kept.read at) records

-- a commit is kept
pub counted_recorded : (log : Log) (plan : Planned) (records : List Footprint) (at : BlockNo)
    → reads_in (with_record log log.places plan records) at ≡ reads_in records at
    + (if nat_lt (installed_place log) log.places then objects_in plan.read at else 0)
counted_recorded log plan records at = go (nat_lt (installed_place log) log.places)
  where
    go : (t : Bool) → reads_in (if t then records ++ footprint log.places plan ∷ [] else records) at
        ≡ reads_in records at + (if t then objects_in plan.read at else 0)
    go true =
        let e = total-append (λ (kept : Footprint). objects_in kept.read at) records
        (footprint log.places plan ∷ []) in
        omega (arith, e)
    go false = omega arith

pub once_most : (t : Bool) → (if t then 1 else 0) ≤ 1
once_most true = omega arith
once_most false = omega arith

-- no block is more often among some than there are
pub count_most : (blocks : List BlockNo) (at : BlockNo) → count_in blocks at ≤ length blocks
count_most [] at = omega arith
count_most (block ∷ later) at =
    let rest = count_most later at in
    let one = once_most (nat_eq at.0 block.0) in
    omega (arith, rest, one)

-- the objects in a block are told by the block of each
pub objects_are : (objects : List ObjectBytes) (at : BlockNo)
    → count_in (block_of_each objects) at ≡ objects_in objects at
objects_are objects at =
    total-map (λ (object : ObjectBytes). object.addr.block) (λ block. once_at block at) objects
