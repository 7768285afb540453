-- A block's calls are those of its side: what a file answers to a side doesn't depend on the other.
use Rattle.std.proofs.Common.{◌≡◌, ℕ, ◌*◌, Bool, true, false, ◌||◌, List, [], ◌∷◌, ◌++◌, refl, sym}
use Rattle.std.proofs.Common.{subst, ◌∙◌, ap, rules, inl, inr, Result, Ok, Err, if◌then◌else◌, nat_eq}
use Rattle.std.proofs.lemmas.List.{append_assoc, map-append}
use Rattle.std.proofs.lemmas.Bool.{cases_Bool, eq-eqb, eqb-true}
use Rattle.std.specs.Prelude.{filter}
use Rattle.base.specs.declared.TheConstants.{BLOCK_BYTES}
use Rattle.disk.specs.declared.block.Side.{Side}
use Rattle.disk.specs.declared.block.Side.TheVariants.{Log, Home}
use Rattle.disk.specs.declared.device.Failed.{Failed}
use Rattle.disk_file.specs.declared.file.FileCall.{FileCall}
use Rattle.disk_file.specs.declared.file.FileCall.TheVariants.{Read, Write, Sync}
use Rattle.disk.specs.Device.{Content, is_on}
use Rattle.disk_file.specs.File.{Calls, EachFits, IsHonest, KeepsModel, file_device, is_at, is_uncertain, put}
use Rattle.disk_file.specs.File.{makes_block_uncertain, stored}
use Rattle.disk.specs.Overlap.{DeviceCall, Makes, reads, writes, settles}
use Rattle.disk.specs.Ports.{AnsweredCalls}
use Rattle.disk_file.specs.Sides.{ComeInOrder, IsHonestTo, asked_for, file_call, file_calls, is_of, of_side}
use Rattle.disk_file.proofs.FileLemmas.{counts, explained, has_read, has_settled, has_written, preserves_before, same_block}

abbrev Answered : Type 0
Answered = DeviceCall × Result Unit Failed

-- ---- lists

left_over : {X : Type 0} (p : X → Bool) (x : X) (xs : List X) → p x ≡ true → filter p (x ∷ xs) ≡ x ∷ filter p xs
left_over p x xs is = ap (λ (b : Bool). if b then x ∷ filter p xs else filter p xs) is

dropped : {X : Type 0} (p : X → Bool) (x : X) (xs : List X) → p x ≡ false → filter p (x ∷ xs) ≡ filter p xs
dropped p x xs is = ap (λ (b : Bool). if b then x ∷ filter p xs else filter p xs) is

filtered_at : {X : Type 0} (p : X → Bool) (before : List X) (x : X) (after : List X) → p x ≡ true
    → filter p (before ++ x ∷ after) ≡ filter p before ++ x ∷ filter p after
filtered_at p [] x after is = left_over p x after is
filtered_at p (y ∷ before) x after is = elim (cases_Bool (p y)) [
  | inl t ↦ left_over p y (before ++ x ∷ after) t ∙ ap (λ ys. y ∷ ys) (filtered_at p before x after is)
      ∙ ap (λ ys. ys ++ x ∷ filter p after) (sym (left_over p y before t))
  | inr f ↦ dropped p y (before ++ x ∷ after) f ∙ filtered_at p before x after is
      ∙ ap (λ ys. ys ++ x ∷ filter p after) (sym (dropped p y before f))
]

-- where a file's calls are parted so are the calls that they come of
record Parted (calls : AnsweredCalls) (earlier : Calls) (call : FileCall × Result Unit Failed) : Type 0 where
  before : AnsweredCalls
  one : Answered
  after : AnsweredCalls
  are : calls ≡ before ++ one ∷ after
  earlier_is : file_calls before ≡ earlier
  call_is : file_call one.0 ≡ call.0
  result_is : one.1 ≡ call.1

parted : (calls : AnsweredCalls) (earlier later : Calls) (call : FileCall × Result Unit Failed)
    → file_calls calls ≡ earlier ++ call ∷ later → Parted calls earlier call
parted [] [] later call is = cc
parted [] (e ∷ earlier) later call is = cc
parted (one ∷ calls) [] later call is = record {
  before = [];
  one = one;
  after = calls;
  are = refl;
  earlier_is = refl;
  call_is = cc;
  result_is = cc;
}
parted (one ∷ calls) (e ∷ earlier) later call is =
    let rest = parted calls earlier later call cc in
    record {
      before = one ∷ rest.before;
      one = rest.one;
      after = rest.after;
      are = ap (λ (cs : AnsweredCalls). one ∷ cs) rest.are;
      earlier_is = ap (λ (cs : Calls). (file_call one.0, one.1) ∷ cs) rest.earlier_is
          ∙ ap (λ (c : FileCall × Result Unit Failed). c ∷ earlier) {y = e} cc;
      call_is = rest.call_is;
      result_is = rest.result_is;
    }

-- ---- a block and its side

-- blocks of which one is on a side and the other isn't differ
apart : (side : Side) (block other : ℕ) → is_on side block ≡ true → is_on side other ≡ false
    → is_at block (other * BLOCK_BYTES) ≡ false
apart side block other on off = same_block block other ∙ elim (cases_Bool (nat_eq block other)) [
  | inl t ↦ let same : block ≡ other = eqb-true block other t in
      let no : true ≡ false = sym on ∙ ap (is_on side) same ∙ off in cc
  | inr f ↦ f
]

-- a block that isn't on the log side is on the home side
not_log : (block : ℕ) → is_on Log block ≡ false → is_on Home block ≡ true
not_log block off = search rules

-- the block whose bytes lie at another's offset is that one
same_offset : (block other at : ℕ) → is_at block at ≡ true → other * BLOCK_BYTES ≡ at → block ≡ other
same_offset block other at here is =
    eqb-true block other (sym (same_block block other) ∙ ap (is_at block) is ∙ here)

module _ (side : Side) (block : ℕ) (on : is_on side block ≡ true) where
  untouched : (call : DeviceCall) (content : Content) → is_of side call ≡ false
      → put block (file_call call) content ≡ content
  untouched (reads other bytes) content off = refl
  untouched (writes other bytes) content off =
      ap (λ (b : Bool). if b then bytes else content) (apart side block other on off)
  untouched (settles other) content off = refl

  certain : (call : DeviceCall) (result : Result Unit Failed) → is_of side call ≡ false
      → makes_block_uncertain block (file_call call) result ≡ false
  certain (reads other bytes) result off = refl
  certain (writes other bytes) (Ok u) off = refl
  certain (writes other bytes) (Err u) off = apart side block other on off
  certain (settles other) result off = refl

  same_stored : (calls : AnsweredCalls) (content : Content)
      → stored block content (file_calls (of_side side calls)) ≡ stored block content (file_calls calls)
  same_stored [] content = refl
  same_stored (one ∷ calls) content = elim (cases_Bool (is_of side one.0)) [
    | inl t ↦ ap (λ (cs : AnsweredCalls). stored block content (file_calls cs))
        (left_over (λ (c : Answered). is_of side c.0) one calls t)
        ∙ same_stored calls (put block (file_call one.0) content)
    | inr f ↦ ap (λ (cs : AnsweredCalls). stored block content (file_calls cs))
        (dropped (λ (c : Answered). is_of side c.0) one calls f)
        ∙ same_stored calls content
        ∙ ap (λ (c : Content). stored block c (file_calls calls)) (sym (untouched one.0 content f))
  ]

  same_uncertain : (calls : AnsweredCalls)
      → is_uncertain block (file_calls (of_side side calls)) ≡ is_uncertain block (file_calls calls)
  same_uncertain [] = refl
  same_uncertain (one ∷ calls) = elim (cases_Bool (is_of side one.0)) [
    | inl t ↦ ap (λ (cs : AnsweredCalls). is_uncertain block (file_calls cs))
        (left_over (λ (c : Answered). is_of side c.0) one calls t)
        ∙ ap (λ (b : Bool). makes_block_uncertain block (file_call one.0) one.1 || b) (same_uncertain calls)
    | inr f ↦ ap (λ (cs : AnsweredCalls). is_uncertain block (file_calls cs))
        (dropped (λ (c : Answered). is_of side c.0) one calls f)
        ∙ same_uncertain calls
        ∙ ap (λ (b : Bool). b || is_uncertain block (file_calls calls)) (sym (certain one.0 one.1 f))
  ]

-- ---- honest to each side

module _ (first : ℕ → Content) (size : ℕ) where
  -- a read of a block, where its side was answered honestly
  read_on : (side : Side) (asked before after : AnsweredCalls) (block : ℕ) (bytes : Content)
      → IsHonestTo first size side asked
      → of_side side (before ++ (reads block bytes, Ok tt) ∷ after) ≡ asked_for size side asked
      → is_on side block ≡ true → is_uncertain block (file_calls before) ≡ false
      → bytes ≡ stored block (first block) (file_calls before)
  read_on side asked before after block bytes honest come on clean =
      let parted_at : file_calls (asked_for size side asked)
      ≡ file_calls (of_side side before)
      ++ (file_call (reads block bytes), Ok tt) ∷ file_calls (of_side side after) =
      ap file_calls (sym come)
      ∙ ap file_calls (filtered_at (λ (c : Answered). is_of side c.0) before (reads block bytes, Ok tt) after on)
      ∙ map-append (λ (c : Answered). (file_call c.0, c.1)) (of_side side before)
      ((reads block bytes, Ok tt) ∷ of_side side after) in
      honest (file_calls (of_side side before)) (file_calls (of_side side after)) (file_call (reads block bytes))
      parted_at block (same_block block block ∙ eq-eqb block block refl)
      (same_uncertain side block on before ∙ clean)
      ∙ same_stored side block on before (first block)

  module _ (log home calls : AnsweredCalls) (to_log : IsHonestTo first size Log log)
      (to_home : IsHonestTo first size Home home) (come : ComeInOrder size log home calls) where
    read_in : (before after : AnsweredCalls) (block : ℕ) (bytes : Content) (on : Bool)
        → is_on Log block ≡ on → calls ≡ before ++ (reads block bytes, Ok tt) ∷ after
        → is_uncertain block (file_calls before) ≡ false → bytes ≡ stored block (first block) (file_calls before)
    read_in before after block bytes true on are clean =
        read_on Log log before after block bytes to_log (ap (of_side Log) (sym are) ∙ come.0) on clean
    read_in before after block bytes false on are clean =
        read_on Home home before after block bytes to_home (ap (of_side Home) (sym are) ∙ come.1)
        (not_log block on) clean

    honest_at : (before after : AnsweredCalls) (one : DeviceCall) (call : FileCall)
        → calls ≡ before ++ (one, Ok tt) ∷ after → file_call one ≡ call
        → IsHonest first (file_calls before) call
    honest_at before after (reads other content) (Read at bytes) are is = λ block here clean.
        let same : other ≡ block = sym (same_offset block other at here cc) in
        let brought : content ≡ bytes.value = cc in
        sym brought
        ∙ read_in before after block content (is_on Log block) refl
        (subst (λ (n : ℕ). calls ≡ before ++ (reads n content, Ok tt) ∷ after) same are) clean
    honest_at before after (writes other content) (Read at bytes) are is = cc
    honest_at before after (settles side) (Read at bytes) are is = cc
    honest_at before after one (Write at bytes) are is = tt
    honest_at before after one (Sync side) are is = tt

    pub honest : EachFits (IsHonest first) (file_calls calls)
    honest earlier later call is =
        let p = parted calls earlier later (call, Ok tt) is in
        subst (λ (cs : Calls). IsHonest first cs call) p.earlier_is
        (honest_at p.before p.after p.one.0 call
        (p.are ∙ ap (λ (r : Result Unit Failed). p.before ++ (p.one.0, r) ∷ p.after) p.result_is) p.call_is)

-- ---- each call as one of the device

module _ (first : ℕ → Content) (size : ℕ) (calls : AnsweredCalls) where
  abbrev next : DeviceCall → Result Unit Failed → Calls
  next call result = file_calls calls ++ (file_call call, result) ∷ []

  made_next : (call : DeviceCall) (result : Result Unit Failed) → KeepsModel first size (next call result)
      → Makes (file_device first size (file_calls calls)) call result (file_device first size (next call result))
  made_next (reads block bytes) result preserves = (
    has_read first size (file_calls calls) (block * BLOCK_BYTES) (record { marker = record {}; value = bytes })
        result,
    counts first size (file_calls calls) (file_call (reads block bytes)) result,
    explained first size (file_calls calls) block (record { marker = record {}; value = bytes }) result preserves,
  )
  made_next (writes block bytes) result preserves = (
    has_written first size (file_calls calls) block (record { marker = record {}; value = bytes }) result,
    counts first size (file_calls calls) (file_call (writes block bytes)) result,
  )
  made_next (settles side) result preserves = (
    has_settled first size (file_calls calls) side result,
    counts first size (file_calls calls) (file_call (settles side)) result,
  )

  pub made : (later : AnsweredCalls) (call : DeviceCall) (result : Result Unit Failed)
      → KeepsModel first size (file_calls (calls ++ (call, result) ∷ later))
      → Makes (file_device first size (file_calls calls)) call result
      (file_device first size (file_calls (calls ++ (call, result) ∷ [])))
  made later call result preserves =
      let last : file_calls (calls ++ (call, result) ∷ []) ≡ next call result =
      map-append (λ (c : Answered). (file_call c.0, c.1)) calls ((call, result) ∷ []) in
      let all : file_calls (calls ++ (call, result) ∷ later) ≡ next call result ++ file_calls later =
      map-append (λ (c : Answered). (file_call c.0, c.1)) calls ((call, result) ∷ later)
      ∙ sym (append_assoc (file_calls calls) ((file_call call, result) ∷ []) (file_calls later)) in
      subst (λ (cs : Calls). Makes (file_device first size (file_calls calls)) call result
      (file_device first size cs)) (sym last)
      (made_next call result (preserves_before first size (next call result) (file_calls later)
      (subst (λ (cs : Calls). KeepsModel first size cs) all preserves)))
