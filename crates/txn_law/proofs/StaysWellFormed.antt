-- Lemmas: what transactions have taken and what is in memory stay well formed.
use Rattle.std.proofs.Common.{◌≡◌, ℕ, Bool, true, false, not, cond, ◌||◌, if◌then◌else◌, nat_eq, List, [], ◌∷◌}
use Rattle.std.proofs.Common.{◌++◌, Option, Some, None, is_none, All, refl, sym, ap, subst, ◌∙◌, ◌⊎◌, inl}
use Rattle.std.proofs.Common.{inr, arith}
use Rattle.std.specs.Prelude.{Contains, is_some}
use Rattle.std.specs.List.{filter, list_any}
use Rattle.std.proofs.lemmas.Bool.{eqb-true, eq-eqb}
use Rattle.std.proofs.lemmas.List.Elements.{All-nil, All-cons, All-head, All-tail, All-push, All-weaker}
use Rattle.std.proofs.lemmas.List.Elements.{All-contains, All-contains_itself, All-filter}
use Rattle.base.specs.declared.TheConstants.{BLOCK_BYTES}
use Rattle.objects.specs.Present.{filled_in}
use Rattle.disk.specs.Device.{Content}
use Rattle.disk.specs.declared.block.BlockNo.{BlockNo}
use Rattle.objects.specs.Addr.{Overlap}
use Rattle.objects.specs.Mode.{Excludes, upgraded}
use Rattle.objects.specs.declared.addr.Addr.{Addr}
use Rattle.objects.specs.declared.mode.Mode.{Mode}
use Rattle.objects.specs.declared.mode.Mode.TheVariants as modes
use Rattle.circ.specs.Log.Log.{Log, IsHomeOn, newest, newest_of, installed_place}
use Rattle.txn_law.specs.Core.{CoreState, IsOut, with_refused, without, ended, past, installed}
use Rattle.txn_law.specs.Fetch.{Fetch}
use Rattle.txn_law.specs.Fetched.{fetched, fetch_failed}
use Rattle.objects.specs.Present.{filled, without_pending}
use Rattle.txn_law.specs.Holds.{ConflictsWith, IsHoldOf, IsFree, for_reading, for_fetching, for_writing, is_taken}
use Rattle.txn_law.specs.Holds.{is_hold_of, hold_of, without_hold, joined, with_hold, released}
use Rattle.objects.specs.Present.{present_of, content_in, is_pending}
use Rattle.txn_law.specs.Records.{is_read_by_uninstalled, is_left, swept}
use Rattle.txn_law.specs.WellFormed.{AreCompatible, AreApart, IsReadHere, IsClaimedWhole, IsUnlogged, IsOfOne}
use Rattle.objects.specs.Present.{IsOnce}
use Rattle.txn_law.specs.WellFormed.{IsPlaced}
use Rattle.circ.specs.Log.Grows.{IsWholeChange}
use Rattle.txn_law.specs.WellFormed.{IsWellFormed}
use Rattle.txn_law.specs.Window.{Footprint}
use Rattle.txn_law.specs.Lists.{IsHeldExactly, IsFetchedExactly, claimed}
use Rattle.objects.specs.Present.{with_block}
use Rattle.txn_law.specs.LockAnswers.{IsOpen, IsWhole}
use Rattle.txn_law.specs.declared.hold.Hold.{Hold}
use Rattle.objects.specs.declared.present.Present.{Present}
use Rattle.txn_law.proofs.Again.{same_addr, one_or_apart}
use Rattle.txn_law.proofs.Claims.{found_by, all_four}
use Rattle.objects.proofs.Residents.{is_of, same_block, once_filter, once_push, filled_content, once_filled}
use Rattle.objects.proofs.Residents.{each_filled}
use Rattle.objects.proofs.Found.{find_retained, find_push_some, find_push_none}
use Rattle.txn_law.proofs.Memory.{swept_stays}
use Rattle.txn_law.proofs.Swept.{or-true, in_cons}

-- what is kept passes the test
pub passing : {X : Type 0} (P : X → Type 0) (q : X → Bool) (xs : List X) → All P xs
    → All (λ x. (q x ≡ true) × P x) (filter q xs)
passing P q [] h = All-nil (λ x. (q x ≡ true) × P x)
passing P q (x ∷ xs) h = go (passing P q xs (All-tail P x xs h)) (q x) refl
  where
    go : All (λ y. (q y ≡ true) × P y) (filter q xs) → (t : Bool) → q x ≡ t
        → All (λ y. (q y ≡ true) × P y) (cond t (x ∷ filter q xs) (filter q xs))
    go rest true e = All-cons (λ y. (q y ≡ true) × P y) x (filter q xs) (e, All-head P x xs h) rest
    go rest false e = rest

pub apart_filter : (q : Hold → Bool) (xs : List Hold) → AreApart xs → AreApart (filter q xs)
apart_filter q [] h = tt
apart_filter q (x ∷ xs) h = go (apart_filter q xs h.1) (q x)
  where
    go : AreApart (filter q xs) → (t : Bool) → AreApart (cond t (x ∷ filter q xs) (filter q xs))
    go rest true = (All-filter q (AreCompatible x) xs h.0, rest)
    go rest false = rest

apart_push : (xs : List Hold) (hold : Hold) → AreApart xs → All (λ x. AreCompatible x hold) xs
    → AreApart (xs ++ hold ∷ [])
apart_push [] hold h compatible = (All-nil (AreCompatible hold), tt)
apart_push (x ∷ xs) hold h compatible = (
  All-push (AreCompatible x) xs hold h.0 (All-head (λ y. AreCompatible y hold) x xs compatible),
  apart_push xs hold h.1 (All-tail (λ y. AreCompatible y hold) x xs compatible),
)

pub is_hold : (tx : ℕ) (addr : Addr) (x : Hold) → IsHoldOf tx addr x → is_hold_of tx addr x ≡ true
is_hold tx addr x h =
    let a = eq-eqb x.transaction tx h.0 in
    let b = eq-eqb x.addr.block.0 addr.block.0 (ap (λ (d : Addr). d.block.0) h.1) in
    let o = eq-eqb x.addr.offset addr.offset (ap (λ (d : Addr). d.offset) h.1) in
    let l = eq-eqb x.addr.len addr.len (ap (λ (d : Addr). d.len) h.1) in
    rw (a, b, o, l) refl

module _ (holds : List Hold) (hold : Hold) where
  -- the holds besides this one
  abbrev pub others : List Hold
  others = without_hold holds hold.transaction hold.addr

  -- one of these holds isn't the transaction's of this address
  abbrev IsOther : Hold → Type 0
  IsOther x = (not (is_hold_of hold.transaction hold.addr x) ≡ true) × Contains holds x

  -- each of the others is one
  each_other : All IsOther others
  each_other =
      passing (Contains holds) (λ x. not (is_hold_of hold.transaction hold.addr x)) holds
      (All-contains_itself holds)

  is_not : (x : Hold) → IsOther x → is_hold_of hold.transaction hold.addr x ≡ true → ⊥
  is_not x h it = let no : not true ≡ true = ap not (sym it) ∙ h.0 in absurd (cc)

  compatible_with_request : IsFree holds hold.transaction hold.addr hold.mode → (x : Hold) → IsOther x → AreCompatible x hold
  compatible_with_request free x h over off =
      is_not x h (is_hold hold.transaction hold.addr x
      (All-contains (λ y. Overlap y.addr hold.addr → ConflictsWith hold.transaction hold.mode y
      → IsHoldOf hold.transaction hold.addr y) holds x free.others h.1 over off))

  -- beside the request, and beside what the transaction had of the address, is beside both joined
  module _ (had : Hold) (found : hold_of holds hold.transaction hold.addr ≡ Some had) where
    abbrev here : (is_hold_of hold.transaction hold.addr had ≡ true) × Contains holds had
    here = found_by (is_hold_of hold.transaction hold.addr) holds had found

    at : had.addr ≡ hold.addr
    at = let four = all_four (nat_eq had.transaction hold.transaction)
        (nat_eq had.addr.block.0 hold.addr.block.0) (nat_eq had.addr.offset hold.addr.offset)
        (nat_eq had.addr.len hold.addr.len) here.0 in
        same_addr had.addr hold.addr (eqb-true had.addr.block.0 hold.addr.block.0 four.1)
        (eqb-true had.addr.offset hold.addr.offset four.2) (eqb-true had.addr.len hold.addr.len four.3)

    compatible_had : AreApart holds → (x : Hold) → IsOther x → AreCompatible x had
    compatible_had apart x h = go (one_or_apart holds x had apart h.1 here.1)
      where
        go : (x ≡ had) ⊎ AreCompatible x had → AreCompatible x had
        go (inl same) = absurd (is_not x h (ap (is_hold_of hold.transaction hold.addr) same ∙ here.0))
        go (inr compatible) = compatible

    compatible_both : (x : Hold) → AreCompatible x hold → AreCompatible x had → AreCompatible x (joined (Some had) hold)
    compatible_both x request held over off = go off
      where
        of_one : (one other : Mode) → upgraded one other ≡ modes.Exclusive
            → (one ≡ modes.Exclusive) ⊎ (other ≡ modes.Exclusive)
        of_one one modes.Shared e = inl e
        of_one one modes.Exclusive e = inr refl

        which : (had.mode ≡ modes.Exclusive) ⊎ (hold.mode ≡ modes.Exclusive) → ⊥
        which (inl exclusive_hold) = held (subst (λ (d : Addr). Overlap x.addr d) (sym at) over) (inr (inr exclusive_hold))
        which (inr exclusive_hold) = request over (inr (inr exclusive_hold))

        excluded : Excludes x.mode (upgraded had.mode hold.mode) → ⊥
        excluded (inl exclusive_hold) = request over (inr (inl exclusive_hold))
        excluded (inr exclusive_hold) = which (of_one had.mode hold.mode exclusive_hold)

        go : ConflictsWith hold.transaction (upgraded had.mode hold.mode) x → ⊥
        go (inl same) = request over (inl same)
        go (inr excludes) = excluded excludes

  pub apart_with : AreApart holds → IsFree holds hold.transaction hold.addr hold.mode
      → AreApart (with_hold holds hold)
  apart_with apart free = go (hold_of holds hold.transaction hold.addr) refl
    where
      rest : AreApart others
      rest = apart_filter (λ x. not (is_hold_of hold.transaction hold.addr x)) holds apart

      go : (had : Option Hold) → hold_of holds hold.transaction hold.addr ≡ had
          → AreApart (others ++ joined had hold ∷ [])
      go None e = apart_push others hold rest
          (All-weaker IsOther (λ x. AreCompatible x hold) (compatible_with_request free) others each_other)
      go (Some had) e = apart_push others (joined (Some had) hold) rest
          (All-weaker IsOther (λ x. AreCompatible x (joined (Some had) hold))
          (λ x h. compatible_both had e x (compatible_with_request free x h) (compatible_had had e apart x h)) others each_other)

  -- what holds of all holds, and of the new one beside one that there was, holds of all then
  pub each_with : (P Q : Hold → Type 0) → ((x : Hold) → P x → Q x) → All P holds → Q hold
      → ((had : Hold) → P had → had.addr.block.0 ≡ hold.addr.block.0 → had.addr.offset ≡ hold.addr.offset
      → had.addr.len ≡ hold.addr.len → Q (joined (Some had) hold)) → All Q (with_hold holds hold)
  each_with P Q keep each new compatible = go (hold_of holds hold.transaction hold.addr) refl
    where
      rest : All Q others
      rest = All-weaker P Q keep others
          (All-filter (λ x. not (is_hold_of hold.transaction hold.addr x)) P holds each)

      go : (had : Option Hold) → hold_of holds hold.transaction hold.addr ≡ had
          → All Q (others ++ joined had hold ∷ [])
      go None e = All-push Q others hold rest new
      go (Some had) e =
          let (is, there) = found_by (is_hold_of hold.transaction hold.addr) holds had e in
          let four = all_four (nat_eq had.transaction hold.transaction)
          (nat_eq had.addr.block.0 hold.addr.block.0) (nat_eq had.addr.offset hold.addr.offset)
          (nat_eq had.addr.len hold.addr.len) is in
          All-push Q others (joined (Some had) hold) rest (compatible had (All-contains P holds had each there)
          (eqb-true had.addr.block.0 hold.addr.block.0 four.1)
          (eqb-true had.addr.offset hold.addr.offset four.2) (eqb-true had.addr.len hold.addr.len four.3))

-- the claims stay whole
claimed_with : (holds : List Hold) (hold : Hold) → All IsClaimedWhole holds → IsClaimedWhole hold
    → All IsClaimedWhole (with_hold holds hold)
claimed_with holds hold each new =
    each_with holds hold IsClaimedWhole IsClaimedWhole (λ x h. h) each new
    (λ had whole block offset len is. go had whole offset len had.is_claimed hold.is_claimed refl refl is)
  where
    go : (had : Hold) → IsClaimedWhole had → had.addr.offset ≡ hold.addr.offset → had.addr.len ≡ hold.addr.len
        → (a b : Bool) → had.is_claimed ≡ a → hold.is_claimed ≡ b → (a || b) ≡ true
        → (hold.addr.offset ≡ 0) × (hold.addr.len ≡ BLOCK_BYTES)
    go had whole offset len true b is e some =
        let (o, l) = whole is in (sym offset ∙ o, sym len ∙ l)
    go had whole offset len false true isnt is either = new is
    go had whole offset len false false isnt e some = absurd (cc)

-- what is read stays in memory
read_with : (holds : List Hold) (hold : Hold) (old new : List Present)
    → ((block : BlockNo) (content : Content) → content_in (present_of old block) ≡ Some content
    → content_in (present_of new block) ≡ Some content)
    → All (IsReadHere old) holds → IsReadHere new hold → All (IsReadHere new) (with_hold holds hold)
read_with holds hold old new stays each here =
    each_with holds hold (IsReadHere old) (IsReadHere new)
    (λ x h is. let (content, there) = h is in (content, stays x.addr.block content there)) each here
    (λ had h block offset len is. go had h block had.is_read hold.is_read refl refl is)
  where
    go : (had : Hold) → IsReadHere old had → had.addr.block.0 ≡ hold.addr.block.0 → (a b : Bool)
        → had.is_read ≡ a → hold.is_read ≡ b → (a || b) ≡ true
        → (content : Content) × (content_in (present_of new hold.addr.block) ≡ Some content)
    go had h block true b is e some =
        let (content, there) = h is in (
          content,
          subst (λ (at : BlockNo). content_in (present_of new at) ≡ Some content)
              (same_block had.addr.block hold.addr.block block) (stays had.addr.block content there),
        )
    go had h block false true isnt is either = here is
    go had h block false false isnt e some = absurd (cc)

-- a block more in memory
module _ (present : List Present) (block : BlockNo) (content : Option Content) where
  abbrev new_resident : Present
  new_resident = record { block = block; content = content }

  pub block_stays : (at : BlockNo) (c : Content) → content_in (present_of present at) ≡ Some c
      → content_in (present_of (with_block present block content) at) ≡ Some c
  block_stays at c e = go (is_some (present_of present block))
    where
      found : (o : Option Present) → present_of present at ≡ o → content_in o ≡ Some c
          → content_in (present_of (present ++ new_resident ∷ []) at) ≡ Some c
      found None is e = absurd (cc)
      found (Some x) is e = ap content_in (find_push_some (is_of at) present (new_resident ∷ []) x is) ∙ e

      go : (t : Bool) → content_in (present_of (if t then present else present ++ new_resident ∷ []) at) ≡ Some c
      go true = e
      go false = found (present_of present at) refl e

  pub block_once : IsOnce present → IsOnce (with_block present block content)
  block_once once = go (present_of present block) refl
    where
      go : (o : Option Present) → present_of present block ≡ o
          → IsOnce (if is_some o then present else present ++ new_resident ∷ [])
      go (Some x) e = once
      go None e = once_push present new_resident e once

  pub block_each : (P : Present → Type 0) → P new_resident → All P present
      → All P (with_block present block content)
  block_each P new each = go (is_some (present_of present block))
    where
      go : (t : Bool) → All P (if t then present else present ++ new_resident ∷ [])
      go true = each
      go false = All-push P present new_resident each new

-- where no fetch of a block is pending, its resident has a content
loaded : (present : List Present) (block : BlockNo) (x : Present) → present_of present block ≡ Some x
    → is_pending (present_of present block) ≡ false → (c : Content) × (x.content ≡ Some c)
loaded present block x e not_pending = go x.content refl
  where
    go : (o : Option Content) → x.content ≡ o → (c : Content) × (o ≡ Some c)
    go (Some c) is = (c, refl)
    go None is =
        let it : is_none x.content ≡ false = sym (ap is_pending e) ∙ not_pending in
        let yes : is_none x.content ≡ true = ap is_none is in
        absurd (cc)

-- a block that isn't pending is there once it is brought
there_now : (present : List Present) (block : BlockNo) (content : Content)
    → is_pending (present_of present block) ≡ false
    → (c : Content) × (content_in (present_of (with_block present block (Some content)) block) ≡ Some c)
there_now present block content not_pending = go (present_of present block) refl
  where
    go : (o : Option Present) → present_of present block ≡ o
        → (c : Content) × (content_in (present_of (with_block present block (Some content)) block) ≡ Some c)
    go (Some x) e =
        let (c, is) = loaded present block x e not_pending in
        (c, block_stays present block (Some content) block c (ap content_in e ∙ is))
    go None e = (
      content,
      ap (λ (o : Option Present). content_in (present_of (if is_some o then present else present
          ++ record { block = block; content = Some content } ∷ []) block)) e
          ∙ ap content_in (find_push_none (is_of block) present
          (record { block = block; content = Some content } ∷ []) e)
          ∙ ap (λ b. content_in (cond b (Some (record { block = block; content = Some content })) None))
          (eq-eqb block.0 block.0 refl),
    )

-- what is taken is of one that is out
owned_with : (core : CoreState) (hold : Hold) → IsOfOne core hold → All (IsOfOne core) core.holds
    → All (IsOfOne core) (with_hold core.holds hold)
owned_with core hold own each =
    each_with core.holds hold (IsOfOne core) (IsOfOne core) (λ x h. h) each own (λ had h block offset len. own)

pub well_formed_held : (old new : CoreState) (tx : ℕ) (addr : Addr) (mode : Mode) (bytes : List ℕ)
    → IsOpen old tx addr mode
    → IsHeldExactly old tx addr mode bytes new → IsWellFormed old → IsWellFormed new
well_formed_held old new tx addr mode bytes open' held well_formed =
    let hold : Hold = for_reading tx addr mode in
    subst IsWellFormed (sym held.core) (record {
      owned = owned_with old hold (open'.inside.out, open'.inside.home) well_formed.owned;
      placed = block_each old.present addr.block (Some held.content) (IsPlaced old.log.blocks)
          open'.inside.home well_formed.placed;
      apart = apart_with old.holds hold well_formed.apart open'.free;
      read = read_with old.holds hold old.present (with_block old.present addr.block (Some held.content))
          (block_stays old.present addr.block (Some held.content)) well_formed.read
          (λ is. there_now old.present addr.block held.content open'.settled);
      claimed = claimed_with old.holds hold well_formed.claimed (λ is. absurd (cc));
      once = block_once old.present addr.block (Some held.content) well_formed.once;
      pending = block_each old.present addr.block (Some held.content) (IsUnlogged old.log) (λ none. absurd (cc))
          well_formed.pending;
      changes = well_formed.changes;
    })

pub well_formed_fetch : (old new : CoreState) (tx : ℕ) (addr : Addr) (mode : Mode) (io : Fetch)
    → IsOpen old tx addr mode
    → IsFetchedExactly old tx addr mode io new → IsWellFormed old → IsWellFormed new
well_formed_fetch old new tx addr mode io open' fetch well_formed =
    let hold : Hold = for_fetching tx addr mode in
    subst IsWellFormed (sym fetch.core) (record {
      owned = owned_with old hold (open'.inside.out, open'.inside.home) well_formed.owned;
      placed = block_each old.present addr.block None (IsPlaced old.log.blocks) open'.inside.home well_formed.placed;
      apart = apart_with old.holds hold well_formed.apart open'.free;
      read = read_with old.holds hold old.present (with_block old.present addr.block None)
          (block_stays old.present addr.block None) well_formed.read (λ is. absurd (cc));
      claimed = claimed_with old.holds hold well_formed.claimed (λ is. absurd (cc));
      once = block_once old.present addr.block None well_formed.once;
      pending = block_each old.present addr.block None (IsUnlogged old.log)
          (λ none. fetch.unlogged) well_formed.pending;
      changes = well_formed.changes;
    })

pub well_formed_claim : (old : CoreState) (tx : ℕ) (block : BlockNo) (addr : Addr) → IsWhole block addr
    → IsOpen old tx addr modes.Exclusive → IsWellFormed old → IsWellFormed (claimed old tx addr)
well_formed_claim old tx block addr whole open' well_formed =
    let hold : Hold = for_writing tx addr in
    record {
      owned = owned_with old hold (open'.inside.out, open'.inside.home) well_formed.owned;
      placed = well_formed.placed;
      apart = apart_with old.holds hold well_formed.apart open'.free;
      read = read_with old.holds hold old.present old.present (λ at c e. e) well_formed.read (λ is. absurd (cc));
      claimed = claimed_with old.holds hold well_formed.claimed (λ is. (whole.1, whole.2));
      once = well_formed.once;
      pending = well_formed.pending;
      changes = well_formed.changes;
    }

-- what is held is taken
pub taken_one : (holds : List Hold) (hold : Hold) → Contains holds hold → is_taken holds hold.addr.block ≡ true
taken_one [] hold (k, lt, e) = absurd (omega (arith, lt))
taken_one (x ∷ xs) hold h = go (taken_one xs hold) (in_cons x hold xs h)
  where
    go : (Contains xs hold → is_taken xs hold.addr.block ≡ true) → (x ≡ hold) ⊎ Contains xs hold
        → is_taken (x ∷ xs) hold.addr.block ≡ true
    go rest (inl same) = ap (λ b. b || is_taken xs hold.addr.block)
        (eq-eqb x.addr.block.0 hold.addr.block.0 (ap (λ (h : Hold). h.addr.block.0) same))
    go rest (inr later) = ap (λ b. nat_eq x.addr.block.0 hold.addr.block.0 || b) (rest later)
        ∙ or-true (nat_eq x.addr.block.0 hold.addr.block.0)

-- a block that is taken stays in memory
pub taken_stays : (spare : Present → Bool) (holds : List Hold) (records : List Footprint)
    (present : List Present) (block : BlockNo)
    (c : Content) → is_taken holds block ≡ true → content_in (present_of present block) ≡ Some c
    → content_in (present_of (swept spare holds records present) block) ≡ Some c
taken_stays spare holds records present block c is e =
    swept_stays spare holds records present block c e (ap (λ b. b || is_read_by_uninstalled records block) is)

pub read_swept : (spare : Present → Bool) (holds : List Hold) (records : List Footprint) (old new : List Present)
    → ((block : BlockNo) (content : Content) → content_in (present_of old block) ≡ Some content
    → content_in (present_of new block) ≡ Some content)
    → All (IsReadHere old) holds → All (IsReadHere (swept spare holds records new)) holds
read_swept spare holds records old new stays each =
    All-weaker (λ x. IsReadHere old x × Contains holds x) (IsReadHere (swept spare holds records new))
    (λ x h is. let (content, there) = h.0 is in (
      content,
      taken_stays spare holds records new x.addr.block content (taken_one holds x h.1)
          (stays x.addr.block content there),
    )) holds
    (λ k d lt. (each k d lt, All-contains_itself holds k d lt))

-- what the others have taken is of transactions that are still out
pub out_still : (out : List ℕ) (tx t : ℕ) → nat_eq t tx ≡ false → list_any (λ other. nat_eq other t) out ≡ true
    → list_any (λ other. nat_eq other t) (without tx out) ≡ true
out_still [] tx t differ e = e
out_still (o ∷ os) tx t differ e = go (out_still os tx t differ) (nat_eq o t) refl (nat_eq o tx) refl e
  where
    go : (list_any (λ other. nat_eq other t) os ≡ true
        → list_any (λ other. nat_eq other t) (without tx os) ≡ true)
        → (u : Bool) → nat_eq o t ≡ u → (v : Bool) → nat_eq o tx ≡ v
        → (u || list_any (λ other. nat_eq other t) os) ≡ true
        → list_any (λ other. nat_eq other t) (cond (not v) (o ∷ without tx os) (without tx os)) ≡ true
    go rest true is true same e =
        absurd (let yes : nat_eq t tx ≡ true =
        eq-eqb t tx (sym (eqb-true o t is) ∙ eqb-true o tx same) in cc)
    go rest true is false other e = ap (λ b. b || list_any (λ x. nat_eq x t) (without tx os)) is
    go rest false is true same e = rest e
    go rest false is false other e = ap (λ b. b || list_any (λ x. nat_eq x t) (without tx os)) is ∙ rest e

pub owned_end : (spare : Present → Bool) (old : CoreState) (tx : ℕ) → IsWellFormed old
    → All (λ hold. IsOut (ended spare old tx) hold.transaction × IsHomeOn old.log.blocks hold.addr.block)
    (released old.holds tx)
owned_end spare old tx well_formed =
    All-weaker (λ hold. (not (nat_eq hold.transaction tx) ≡ true) × IsOfOne old hold)
    (λ hold. IsOut (ended spare old tx) hold.transaction × IsHomeOn old.log.blocks hold.addr.block)
    (λ hold h. (out_still old.out tx hold.transaction (differs (nat_eq hold.transaction tx) h.0) h.1.0, h.1.1))
    (released old.holds tx)
    (passing (IsOfOne old) (λ hold. not (nat_eq hold.transaction tx)) old.holds well_formed.owned)
  where
    differs : (t : Bool) → not t ≡ true → t ≡ false
    differs true e = absurd (cc)
    differs false e = refl

pub well_formed_end : (spare : Present → Bool) (old : CoreState) (tx : ℕ) → IsWellFormed old → IsWellFormed (ended spare old tx)
well_formed_end spare old tx well_formed = record {
  owned = owned_end spare old tx well_formed;
  placed = All-filter (is_left spare (released old.holds tx) old.records) (IsPlaced old.log.blocks) old.present well_formed.placed;
  apart = apart_filter (λ hold. not (nat_eq hold.transaction tx)) old.holds well_formed.apart;
  read = read_swept spare (released old.holds tx) old.records old.present old.present (λ at c e. e)
      (All-filter (λ hold. not (nat_eq hold.transaction tx)) (IsReadHere old.present) old.holds well_formed.read);
  claimed = All-filter (λ hold. not (nat_eq hold.transaction tx)) IsClaimedWhole old.holds well_formed.claimed;
  once = once_filter (is_left spare (released old.holds tx) old.records) old.present well_formed.once;
  pending = All-filter (is_left spare (released old.holds tx) old.records) (IsUnlogged old.log) old.present well_formed.pending;
  changes = well_formed.changes;
}

pub well_formed_fetched : (spare : Present → Bool) (old : CoreState) (block : BlockNo) (content : Content) → IsWellFormed old
    → IsWellFormed (fetched spare old block content)
well_formed_fetched spare old block content well_formed = record {
  owned = well_formed.owned;
  placed = All-filter (is_left spare old.holds old.records) (IsPlaced old.log.blocks) (filled old.present block content)
      (each_filled block content (IsPlaced old.log.blocks) (λ x h. h) old.present well_formed.placed);
  apart = well_formed.apart;
  read = read_swept spare old.holds old.records old.present (filled old.present block content)
      (filled_content block content old.present) well_formed.read;
  claimed = well_formed.claimed;
  once = once_filter (is_left spare old.holds old.records) (filled old.present block content)
      (once_filled block content old.present well_formed.once);
  pending = All-filter (is_left spare old.holds old.records) (IsUnlogged old.log) (filled old.present block content)
      (each_filled block content (IsUnlogged old.log) (λ x h none. absurd (some x.content none)) old.present
      well_formed.pending);
  changes = well_formed.changes;
}
  where
    some : (o : Option Content) → filled_in o content ≡ None → ⊥
    some (Some c) e = absurd (cc)
    some None e = absurd (cc)

-- a block that is there stays where another one's fetch failed
pub failed_stays : (present : List Present) (block at : BlockNo) (c : Content)
    → content_in (present_of present at) ≡ Some c
    → content_in (present_of (without_pending present block) at) ≡ Some c
failed_stays present block at c e = go (present_of present at) refl e
  where
    go : (o : Option Present) → present_of present at ≡ o → content_in o ≡ Some c
        → content_in (present_of (without_pending present block) at) ≡ Some c
    go None there e = absurd (cc)
    go (Some x) there e =
        let kept : (not (nat_eq x.block.0 block.0) || is_some x.content) ≡ true =
        ap (λ (o : Option Content). not (nat_eq x.block.0 block.0) || is_some o) e
        ∙ or-true (not (nat_eq x.block.0 block.0)) in
        ap content_in (find_retained (is_of at) (λ (resident : Present). not (nat_eq resident.block.0 block.0)
        || is_some resident.content) present x there kept) ∙ e

pub well_formed_failed : (old : CoreState) (block : BlockNo) → IsWellFormed old → IsWellFormed (fetch_failed old block)
well_formed_failed old block well_formed = record {
  owned = well_formed.owned;
  placed = All-filter (λ resident. not (nat_eq resident.block.0 block.0) || is_some resident.content)
      (IsPlaced old.log.blocks) old.present well_formed.placed;
  apart = well_formed.apart;
  read = All-weaker (IsReadHere old.present) (IsReadHere (without_pending old.present block))
      (λ x h is. let (content, there) = h is in
      (content, failed_stays old.present block x.addr.block content there)) old.holds well_formed.read;
  claimed = well_formed.claimed;
  once = once_filter (λ resident. not (nat_eq resident.block.0 block.0) || is_some resident.content) old.present
      well_formed.once;
  pending = All-filter (λ resident. not (nat_eq resident.block.0 block.0) || is_some resident.content)
      (IsUnlogged old.log) old.present well_formed.pending;
  changes = well_formed.changes;
}

-- the log has moved on, and has lost no block
pub well_formed_installed : (spare : Present → Bool) (old : CoreState) (log : Log) → log.blocks ≡ old.log.blocks
    → ((block : ℕ) → newest old.log block ≡ None → newest log block ≡ None)
    → All IsWholeChange log.changes → IsWellFormed old → IsWellFormed (installed spare old log)
well_formed_installed spare old log same none whole well_formed = record {
  owned = subst (λ (n : ℕ). All (λ hold. IsOut old hold.transaction × IsHomeOn n hold.addr.block) old.holds)
      (sym same) well_formed.owned;
  placed = All-filter (is_left spare old.holds (past (installed_place log) old.records)) (IsPlaced log.blocks) old.present
      (subst (λ (n : ℕ). All (IsPlaced n) old.present) (sym same) well_formed.placed);
  apart = well_formed.apart;
  read = read_swept spare old.holds (past (installed_place log) old.records) old.present old.present (λ at c e. e)
      well_formed.read;
  claimed = well_formed.claimed;
  once = once_filter (is_left spare old.holds (past (installed_place log) old.records)) old.present well_formed.once;
  pending = All-filter (is_left spare old.holds (past (installed_place log) old.records)) (IsUnlogged log) old.present
      (All-weaker (IsUnlogged old.log) (IsUnlogged log) (λ x h e. none x.block.0 (h e)) old.present
      well_formed.pending);
  changes = whole;
}

pub well_formed_log : (old : CoreState) (log : Log) → log.blocks ≡ old.log.blocks → log.changes ≡ old.log.changes
    → IsWellFormed old → IsWellFormed (record old { log = log })
well_formed_log old log same e well_formed = record {
  owned = subst (λ (n : ℕ). All (λ hold. IsOut old hold.transaction × IsHomeOn n hold.addr.block) old.holds)
      (sym same) well_formed.owned;
  placed = subst (λ (n : ℕ). All (IsPlaced n) old.present) (sym same) well_formed.placed;
  apart = well_formed.apart;
  read = well_formed.read;
  claimed = well_formed.claimed;
  once = well_formed.once;
  pending = All-weaker (IsUnlogged old.log) (IsUnlogged log)
      (λ x h none. ap (λ xs. newest_of xs x.block.0) e ∙ h none) old.present well_formed.pending;
  changes = subst (All IsWholeChange) (sym e) well_formed.changes;
}

-- how often memory was refused changes nothing of it
pub well_formed_refused : (core : CoreState) → IsWellFormed core → IsWellFormed (with_refused core)
well_formed_refused core well_formed = record {
  owned = well_formed.owned;
  placed = well_formed.placed;
  apart = well_formed.apart;
  read = well_formed.read;
  claimed = well_formed.claimed;
  once = well_formed.once;
  pending = well_formed.pending;
  changes = well_formed.changes;
}

-- nor does how many device calls were handed out
pub well_formed_call : (old : CoreState) (log : Log) (log_calls inst_calls : ℕ) → IsWellFormed (record old { log = log })
    → IsWellFormed (record old { log = log; log_calls = log_calls; inst_calls = inst_calls })
well_formed_call old log log_calls inst_calls well_formed = record {
  owned = well_formed.owned;
  placed = well_formed.placed;
  apart = well_formed.apart;
  read = well_formed.read;
  claimed = well_formed.claimed;
  once = well_formed.once;
  pending = well_formed.pending;
  changes = well_formed.changes;
}
