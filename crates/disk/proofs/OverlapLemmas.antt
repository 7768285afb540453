-- Why the order of two calls that may overlap doesn't matter.
use Rattle.std.proofs.Common.{◌≡◌, ◌≢◌, ℕ, ◌+◌, ◌-◌, ◌<◌, ◌≤◌, Bool, true, false, ◌||◌, ◌&&◌, List, []}
use Rattle.std.proofs.Common.{length, drop, get_or, refl, sym, subst, ◌∙◌, ap, arith, Result, Ok, Err, is_err}
use Rattle.std.proofs.Common.{if◌then◌else◌, cond, nat_le, nat_eq, inl, inr}
use Rattle.std.proofs.lemmas.Bool.{true≢false, false≢true, eq-eqb, ne_eqb, eqb-true, eqb-false, le-leb}
use Rattle.std.proofs.lemmas.Bool.{lt-leb, cases_Bool, and_parts, or_cases, and_left, and_right, ltb-true}
use Rattle.std.proofs.lemmas.Bool.{le-ltb, lt-ltb, leb-true}
use Rattle.std.proofs.lemmas.List.{get_or-drop, length-drop}
use Rattle.std.proofs.Math.Bool.{or-false}
use Rattle.std.specs.Prelude.{OnOk, nat_lt}
use Rattle.base.specs.declared.TheConstants.{LOG_HEADER_BLOCK, START_BLOCK}
use Rattle.disk.specs.declared.block.Side.{Side}
use Rattle.disk.specs.declared.block.Side.TheVariants.{Log, Home}
use Rattle.disk.specs.declared.device.Failed.{Failed}
use Rattle.disk.specs.Device.{Content, Device, current, newest, newest_only, side_of, is_on, OneLater}
use Rattle.disk.specs.Device.{CountsFailure, Appends, Settles}
use Rattle.disk.specs.Overlap.{DeviceCall, reads, writes, settles, Brings, Makes, MayOverlap, Alike, Swapped}

-- the blocks whose contents the call may change
abbrev touches : DeviceCall → ℕ → Bool
touches (reads block bytes) k = false
touches (writes block bytes) k = nat_eq k block
touches (settles side) k = is_on side k

-- the blocks that the call makes uncertain
abbrev makes_uncertain : DeviceCall → Result Unit Failed → ℕ → Bool
makes_uncertain (reads block bytes) r k = false
makes_uncertain (writes block bytes) r k = is_err r && nat_eq k block
makes_uncertain (settles side) r k = false

-- the call is a write or a barrier that fails
abbrev loses : DeviceCall → Result Unit Failed → Bool
loses (reads block bytes) r = false
loses (writes block bytes) r = is_err r
loses (settles side) r = is_err r

-- what the call does to a block that it touches
abbrev Leaves : DeviceCall → Result Unit Failed → List Content → List Content → Type 0
Leaves (reads block bytes) r old new = new ≡ old
Leaves (writes block bytes) r old new = Appends old bytes r new
Leaves (settles side) (Ok _) old new = new ≡ newest_only old
Leaves (settles side) (Err _) old new = new ≡ old

abbrev Answers : Device → DeviceCall → Result Unit Failed → Type 0
Answers d (reads block bytes) r = Brings d block bytes r
Answers d (writes block bytes) r = Unit
Answers d (settles side) r = Unit

-- any call, block by block
record Changes (old : Device) (call : DeviceCall) (r : Result Unit Failed) (new : Device) : Type 0 where
  later : OneLater old new
  failure : CountsFailure old new r
  lost : new.lost old.clock ≡ loses call r
  others : (k : ℕ) → touches call k ≡ false → current new k ≡ current old k
  own : (k : ℕ) → touches call k ≡ true → Leaves call r (current old k) (current new k)
  uncertain : (k : ℕ) → new.uncertain k ≡ (old.uncertain k || makes_uncertain call r k)
  answer : Answers old call r

settles_at : (side : Side) (k : ℕ) (r : Result Unit Failed) (old new : List Content) → is_on side k ≡ true
    → Settles side k old r new → Leaves (settles side) r old new
settles_at side k (Ok u) old new on h = h ∙ ap (λ (t : Bool). if t then newest_only old else old) on
settles_at side k (Err u) old new on h = h

settles_off : (side : Side) (k : ℕ) (r : Result Unit Failed) (old new : List Content) → is_on side k ≡ false
    → Settles side k old r new → new ≡ old
settles_off side k (Ok u) old new off h = h ∙ ap (λ (t : Bool). if t then newest_only old else old) off
settles_off side k (Err u) old new off h = h

settles_from : (side : Side) (k : ℕ) (r : Result Unit Failed) (old new : List Content)
    → (is_on side k ≡ false → new ≡ old) → (is_on side k ≡ true → Leaves (settles side) r old new)
    → Settles side k old r new
settles_from side k (Ok u) old new off on =
    elim (cases_Bool (is_on side k)) [
      | inl t ↦ on t ∙ sym (ap (λ (t : Bool). if t then newest_only old else old) t)
      | inr f ↦ off f ∙ sym (ap (λ (t : Bool). if t then newest_only old else old) f)
    ]
settles_from side k (Err u) old new off on = elim (cases_Bool (is_on side k)) [ inl t ↦ on t | inr f ↦ off f ]

changes : (old : Device) (call : DeviceCall) (r : Result Unit Failed) (new : Device) → Makes old call r new
    → Changes old call r new
changes old (reads block bytes) r new (read, failure, brings) = record {
  later = read.later;
  lost = read.lost;
  failure = failure;
  others = λ k h. read.contents k;
  own = λ k h. read.contents k;
  uncertain = λ k. read.uncertain k ∙ sym (or-false (old.uncertain k));
  answer = brings;
}
changes old (writes block bytes) r new (write, failure) = record {
  later = write.later;
  lost = write.lost;
  failure = failure;
  others = λ k h. write.others k (eqb-false k block h);
  own = λ k h. subst (λ (n : ℕ). Appends (current old n) bytes r (current new n)) (sym (eqb-true k block h))
      write.written;
  uncertain = write.uncertain;
  answer = tt;
}
changes old (settles side) r new (settle, failure) = record {
  later = settle.later;
  lost = settle.lost;
  failure = failure;
  others = λ k h. settles_off side k r (current old k) (current new k) h (settle.contents k);
  own = λ k h. settles_at side k r (current old k) (current new k) h (settle.contents k);
  uncertain = λ k. settle.uncertain k ∙ sym (or-false (old.uncertain k));
  answer = tt;
}

makes : (old : Device) (call : DeviceCall) (r : Result Unit Failed) (new : Device) → Changes old call r new
    → Makes old call r new
makes old (reads block bytes) r new h = (
  record {
    later = h.later;
    lost = h.lost;
    contents = λ k. h.others k refl;
    uncertain = λ k. h.uncertain k
        ∙ or-false (old.uncertain k);
  },
  h.failure,
  h.answer,
)
makes old (writes block bytes) r new h = (
  record {
    later = h.later;
    lost = h.lost;
    written = h.own block (eq-eqb block block refl);
    others = λ k ne. h.others k (ne_eqb k block ne);
    uncertain = h.uncertain;
  },
  h.failure,
)
makes old (settles side) r new h = (
  record {
    later = h.later;
    lost = h.lost;
    contents = λ k. settles_from side k r (current old k) (current new k) (h.others k) (h.own k);
    uncertain =
        λ k. h.uncertain k ∙ or-false (old.uncertain k);
  },
  h.failure,
)

-- one more failure, or none
abbrev counted : Result Unit Failed → ℕ
counted r = cond (is_err r) 1 0

-- a device one call later, which had this result, with these contents
abbrev next : Device → (ℕ → List Content) → DeviceCall → Result Unit Failed → (ℕ → Bool) → Device
next d lists call result uncertain = record {
  size = d.size;
  clock = d.clock + 1;
  failures = d.failures + counted result;
  failed = λ made. if nat_lt made d.clock then d.failed made else is_err result;
  lost = λ made. if nat_lt made d.clock then d.lost made else loses call result;
  contents = λ clock k. if nat_le clock d.clock then d.contents clock k else lists k;
  uncertain = uncertain;
}

next_later : (d : Device) (lists : ℕ → List Content) (call : DeviceCall) (result : Result Unit Failed)
    (uncertain : ℕ → Bool) → OneLater d (next d lists call result uncertain)
next_later d lists call result uncertain = record {
  size = refl;
  clock = refl;
  past = λ clock k h. ap (λ (t : Bool). if t then d.contents clock k else lists k) (le-leb clock d.clock h);
  failed = λ made h. ap (λ (t : Bool). if t then d.failed made else is_err result) (lt-ltb made d.clock h);
  lost = λ made h. ap (λ (t : Bool). if t then d.lost made else loses call result) (lt-ltb made d.clock h);
  counted = ap (λ (t : Bool). d.failures + cond (if t then d.failed d.clock else is_err result) 1 0)
      (sym (le-ltb d.clock d.clock (omega arith)));
}

-- of that call it is told whether it was lost
next_lost : (d : Device) (lists : ℕ → List Content) (call : DeviceCall) (result : Result Unit Failed)
    (uncertain : ℕ → Bool) → (next d lists call result uncertain).lost d.clock ≡ loses call result
next_lost d lists call result uncertain =
    ap (λ (t : Bool). if t then d.lost d.clock else loses call result) (le-ltb d.clock d.clock (omega arith))

next_current : (d : Device) (lists : ℕ → List Content) (call : DeviceCall) (result : Result Unit Failed)
    (uncertain : ℕ → Bool) (k : ℕ)
    → current (next d lists call result uncertain) k ≡ lists k
next_current d lists call result uncertain k =
    ap (λ (t : Bool). if t then d.contents (d.clock + 1) k
    else lists k) (lt-leb (d.clock + 1) d.clock (omega arith))

counts_next : (d : Device) (lists : ℕ → List Content) (call : DeviceCall) (uncertain : ℕ → Bool)
    (r : Result Unit Failed) → CountsFailure d (next d lists call r uncertain) r
counts_next d lists call uncertain (Ok u) = omega arith
counts_next d lists call uncertain (Err u) = refl

failures_of : (old new : Device) (r : Result Unit Failed) → CountsFailure old new r
    → new.failures ≡ old.failures + counted r
failures_of old new (Ok u) h = omega (arith, h)
failures_of old new (Err u) h = h

pub newest_settled : (contents : List Content) → newest (newest_only contents) ≡ newest contents
newest_settled contents =
    let n : ℕ = length contents - 1 in
    let len : length (drop n contents) ≡ length contents - n = length-drop n contents in
    let at : n + (length (drop n contents) - 1) ≡ length contents - 1 = omega (arith, len) in
    get_or-drop n contents (length (drop n contents) - 1) [] ∙ ap (λ (i : ℕ). get_or contents i []) at

-- the block reads as it did
record PreservesContent (old new : Device) (k : ℕ) : Type 0 where
  brings : newest (current new k) ≡ newest (current old k)
  clean : new.uncertain k ≡ old.uncertain k

brings_back : (old new : Device) (k : ℕ) (bytes : Content) (r : Result Unit Failed) → PreservesContent old new k
    → Brings new k bytes r → Brings old k bytes r
brings_back old new k bytes r preserves h clean =
    subst (λ (c : Content). OnOk r (bytes ≡ c)) preserves.brings (h (preserves.clean ∙ clean))

brings_on : (old new : Device) (k : ℕ) (bytes : Content) (r : Result Unit Failed) → PreservesContent old new k
    → Brings old k bytes r → Brings new k bytes r
brings_on old new k bytes r preserves h clean =
    subst (λ (c : Content). OnOk r (bytes ≡ c)) (sym preserves.brings) (h (sym preserves.clean ∙ clean))

-- the first call writes no block that the other reads
abbrev Spares : DeviceCall → DeviceCall → Type 0
Spares (writes block x) (reads k y) = k ≢ block
Spares (writes block x) (writes k y) = Unit
Spares (writes block x) (settles side) = Unit
Spares (reads block x) other = Unit
Spares (settles side) other = Unit

none_uncertain : (x t : Bool) (r : Result Unit Failed) → t ≡ false → (x || (is_err r && t)) ≡ x
none_uncertain x t (Ok u) h = or-false x
none_uncertain x t (Err u) h = ap (λ (b : Bool). x || b) h ∙ or-false x

settle_preserves : (side : Side) (r : Result Unit Failed) (old new : List Content)
    → Leaves (settles side) r old new → newest new ≡ newest old
settle_preserves side (Ok u) old new h = ap newest h ∙ newest_settled old
settle_preserves side (Err u) old new h = ap newest h

preserves : (old new : Device) (call : DeviceCall) (r : Result Unit Failed) (k : ℕ) (bytes : Content)
    → Changes old call r new → Spares call (reads k bytes) → PreservesContent old new k
preserves old new (reads block x) r k bytes h spares = record {
  brings = ap newest (h.others k refl);
  clean = h.uncertain k ∙ or-false (old.uncertain k);
}
preserves old new (writes block x) r k bytes h spares = record {
  brings = ap newest (h.others k (ne_eqb k block spares));
  clean = h.uncertain k ∙ none_uncertain (old.uncertain k) (nat_eq k block) r (ne_eqb k block spares);
}
preserves old new (settles side) r k bytes h spares = record {
  brings = elim (cases_Bool (is_on side k)) [
    | inl t ↦ settle_preserves side r (current old k) (current new k) (h.own k t)
    | inr f ↦ ap newest (h.others k f)
  ];
  clean = h.uncertain k ∙ or-false (old.uncertain k);
}

answers_back : (old new : Device) (call other : DeviceCall) (r s : Result Unit Failed)
    → Changes old call r new → Spares call other → Answers new other s → Answers old other s
answers_back old new call (reads k bytes) r s h spares a =
    brings_back old new k bytes s (preserves old new call r k bytes h spares) a
answers_back old new call (writes k bytes) r s h spares a = tt
answers_back old new call (settles side) r s h spares a = tt

answers_on : (old new : Device) (call other : DeviceCall) (r s : Result Unit Failed) → Changes old call r new
    → Spares call other → Answers old other s → Answers new other s
answers_on old new call (reads k bytes) r s h spares a =
    brings_on old new k bytes s (preserves old new call r k bytes h spares) a
answers_on old new call (writes k bytes) r s h spares a = tt
answers_on old new call (settles side) r s h spares a = tt

last_two : (x p q : Bool) → ((x || p) || q) ≡ ((x || q) || p)
last_two true p q = refl
last_two false true true = refl
last_two false true false = refl
last_two false false true = refl
last_two false false false = refl

-- what two calls need to come in either order
record Apart (first second : DeviceCall) : Type 0 where
  disjoint : (k : ℕ) → touches first k ≡ true → touches second k ≡ false
  first_spares : Spares first second
  second_spares : Spares second first

untouched : (first second : DeviceCall) → Apart first second → (k : ℕ) → touches second k ≡ true
    → touches first k ≡ false
untouched first second apart k h =
    elim (cases_Bool (touches first k)) [
      | inl t ↦ absurd (true≢false (sym h ∙ apart.disjoint k t))
      | inr f ↦ f
    ]

module _ (old middle new : Device) (first second : DeviceCall) (r s : Result Unit Failed)
    (one : Changes old first r middle) (two : Changes middle second s new) (apart : Apart first second) where
  abbrev lists : ℕ → List Content
  lists k = if touches second k then current new k else current old k

  abbrev between : Device
  between = next old lists second s (λ k. old.uncertain k || makes_uncertain second s k)

  abbrev end : Device
  end = next between (λ k. current new k) first r (λ k. between.uncertain k
      || makes_uncertain first r k)

  between_at : (k : ℕ) → current between k ≡ lists k
  between_at k = next_current old lists second s (λ k. old.uncertain k || makes_uncertain second s k) k

  end_at : (k : ℕ) → current end k ≡ current new k
  end_at k = next_current between (λ k. current new k) first r (λ k. between.uncertain k
      || makes_uncertain first r k) k

  lists_at : (k : ℕ) (t : Bool) → touches second k ≡ t
      → lists k ≡ (if t then current new k else current old k)
  lists_at k t h = ap (λ (b : Bool). if b then current new k else current old k) h

  second_first : Changes old second s between
  second_first = record {
    later = next_later old lists second s (λ k. old.uncertain k || makes_uncertain second s k);
    lost = next_lost old lists second s (λ k. old.uncertain k || makes_uncertain second s k);
    failure = counts_next old lists second (λ k. old.uncertain k || makes_uncertain second s k) s;
    others = λ k h. between_at k ∙ lists_at k false h;
    own = λ k h.
        let same : current middle k ≡ current old k = one.others k (untouched first second apart k h) in
        subst (λ (c : List Content). Leaves second s c (current between k)) same
        (subst (λ (c : List Content). Leaves second s (current middle k) c)
        (sym (between_at k ∙ lists_at k true h)) (two.own k h));
    uncertain = λ k. refl;
    answer = answers_back old middle first second r s one apart.first_spares two.answer;
  }

  first_second : Changes between first r end
  first_second = record {
    later = next_later between (λ k. current new k) first r (λ k. between.uncertain k
        || makes_uncertain first r k);
    lost = next_lost between (λ k. current new k) first r (λ k. between.uncertain k
        || makes_uncertain first r k);
    failure = counts_next between (λ k. current new k) first (λ k. between.uncertain k || makes_uncertain first r k) r;
    others = λ k h. elim (cases_Bool (touches second k)) [
      | inl t ↦ end_at k ∙ sym (between_at k ∙ lists_at k true t)
      | inr f ↦ end_at k ∙ two.others k f ∙ one.others k h ∙ sym (between_at k ∙ lists_at k false f)
    ];
    own = λ k h.
        let f : touches second k ≡ false = apart.disjoint k h in
        subst (λ (c : List Content). Leaves first r c (current end k))
        (sym (between_at k ∙ lists_at k false f))
        (subst (λ (c : List Content). Leaves first r (current old k) c) (sym (end_at k ∙ two.others k f))
        (one.own k h));
    uncertain = λ k. refl;
    answer = answers_on old between second first s r second_first apart.second_spares one.answer;
  }

  same : Alike new end
  same = record {
    size = two.later.size ∙ one.later.size;
    clock = two.later.clock ∙ ap (λ (n : ℕ). n + 1) one.later.clock;
    failures = let f = failures_of old middle r one.failure in let g = failures_of middle new s two.failure in
        omega (arith, f, g);
    contents = λ k. sym (end_at k);
    uncertain = λ k. two.uncertain k ∙ ap (λ (b : Bool). b || makes_uncertain second s k) (one.uncertain k)
        ∙ last_two (old.uncertain k) (makes_uncertain first r k) (makes_uncertain second s k);
  }

  swapped : Swapped old first second r s new
  swapped = record {
    between = between;
    end = end;
    second_first = makes old second s between second_first;
    first_second = makes between first r end first_second;
    same = same;
  }

log_not_home : (k : ℕ) → is_on Log k ≡ true → is_on Home k ≡ false
log_not_home k h =
    let p = and_parts (nat_le LOG_HEADER_BLOCK k) (nat_lt k START_BLOCK) h in
    let low : LOG_HEADER_BLOCK ≤ k = leb-true LOG_HEADER_BLOCK k p.0 in
    let high : k < START_BLOCK = ltb-true k START_BLOCK p.1 in
    ap (λ (t : Bool). t || nat_le START_BLOCK k) (le-ltb k LOG_HEADER_BLOCK low) ∙ lt-leb START_BLOCK k high

home_not_log : (k : ℕ) → is_on Home k ≡ true → is_on Log k ≡ false
home_not_log k h =
    elim (or_cases (nat_lt k LOG_HEADER_BLOCK) (nat_le START_BLOCK k) h) [
      | inl low ↦ and_left (nat_le LOG_HEADER_BLOCK k) (nat_lt k START_BLOCK)
          (lt-leb LOG_HEADER_BLOCK k (ltb-true k LOG_HEADER_BLOCK low))
      | inr high ↦ and_right (nat_le LOG_HEADER_BLOCK k) (nat_lt k START_BLOCK)
          (le-ltb k START_BLOCK (leb-true START_BLOCK k high))
    ]

sides_apart : (one other : Side) → one ≢ other → (k : ℕ) → is_on one k ≡ true → is_on other k ≡ false
sides_apart Log Log ne k h = absurd (ne refl)
sides_apart Log Home ne k h = log_not_home k h
sides_apart Home Log ne k h = home_not_log k h
sides_apart Home Home ne k h = absurd (ne refl)

apart : (first second : DeviceCall) → MayOverlap first second → Apart first second
apart (reads a x) (reads b y) h = record { disjoint = λ k t. refl; first_spares = tt; second_spares = tt }
apart (reads a x) (writes b y) h = record {
  disjoint = λ k t. absurd (false≢true t);
  first_spares = tt;
  second_spares = h;
}
apart (reads a x) (settles side) h = record {
  disjoint = λ k t. absurd (false≢true t);
  first_spares = tt;
  second_spares = tt;
}
apart (writes a x) (reads b y) h = record {
  disjoint = λ k t. refl;
  first_spares = λ e. h (sym e);
  second_spares = tt;
}
apart (writes a x) (writes b y) h = record {
  disjoint = λ k t. ne_eqb k b (λ e. h (ap side_of (sym (eqb-true k a t) ∙ e)));
  first_spares = tt;
  second_spares = tt;
}
apart (writes a x) (settles side) h = record {
  disjoint = λ k t. ap (λ (n : ℕ). is_on side n) (eqb-true k a t) ∙ h;
  first_spares = tt;
  second_spares = tt;
}
apart (settles side) (reads b y) h = record { disjoint = λ k t. refl; first_spares = tt; second_spares = tt }
apart (settles side) (writes b y) h = record {
  disjoint = λ k t. ne_eqb k b (λ e. true≢false (sym t ∙ ap (λ (n : ℕ). is_on side n) e ∙ h));
  first_spares = tt;
  second_spares = tt;
}
apart (settles side) (settles other) h = record {
  disjoint = sides_apart side other h;
  first_spares = tt;
  second_spares = tt;
}

pub commute : (old middle new : Device) (first second : DeviceCall) (r s : Result Unit Failed)
    → Makes old first r middle → Makes middle second s new → MayOverlap first second
    → Swapped old first second r s new
commute old middle new first second r s one two may =
    swapped old middle new first second r s (changes old first r middle one) (changes middle second s new two)
    (apart first second may)
