-- Lemmas: what agrees with a log leaves a group boundary.
use Rattle.std.proofs.Common.{◌≡◌, ℕ, zero, suc, ◌+◌, ◌-◌, ◌*◌, ◌%◌, ◌≤◌, ◌<◌, ◌⊎◌, inl, inr, List, [], ◌∷◌}
use Rattle.std.proofs.Common.{◌++◌, length, take, drop, get_or, slice_get, Option, Some, None, refl, sym, ap}
use Rattle.std.proofs.Common.{subst, ◌∙◌, arith, nat_eq, if◌then◌else◌}
use Rattle.std.proofs.lemmas.List.{map-append, length-drop}
use Rattle.std.proofs.lemmas.Bool.{cases_lt}
use Rattle.std.proofs.lemmas.List.Elements.{All-get_or}
use Rattle.std.proofs.lemmas.Option.{slice_get_cases}
use Rattle.std.proofs.Math.Seq.{take-suc, take-add}
use Rattle.base.specs.declared.TheConstants.{LOG_SLOTS, LOG_HEADER_BLOCK, START_BLOCK}
use Rattle.disk.specs.Device.{Content, Device}
use Rattle.disk.specs.Crash.{Image, IsCrashImage}
use Rattle.disk.specs.declared.block.BlockNo.{BlockNo}
use Rattle.circ.specs.declared.log.change.LogChange.{LogChange}
use Rattle.circ.specs.Log.Log.{Log, IsLawful, IsHomeOn, or_else, newest_of}
use Rattle.circ.specs.Log.Logger.{slot_block}
use Rattle.circ.specs.Log.EightBytes.{number_at}
use Rattle.circ.specs.Log.Overlay.{start_in, end_in, count_in, home_at, positions, logged_in, IsInRange}
use Rattle.circ.specs.Log.Overlay.{HasHomes, content_or, over}
use Rattle.circ.specs.Log.Effects.{newest_in, brought_home}
use Rattle.circ.specs.Log.Law.{IsOutside, with_changes, HoldsSlots, IsHeaderOf, IsStartBehind, Agrees, IsAfter}
use Rattle.circ.specs.Log.Law.{pairs_of, ShowsLog, IsBoundary}
use Rattle.circ.proofs.LogLemmas.Newest.{newest_of-append}
use Rattle.circ.proofs.LogLemmas.Lists.{slice_get-drop}

pub newest_in-pairs : (changes : List LogChange) (block : ℕ)
    → newest_in (pairs_of changes) block ≡ newest_of changes block
newest_in-pairs [] block = refl
newest_in-pairs (change ∷ later) block =
    ap (λ o. or_else o (if nat_eq change.block.0 block then Some change.content else None))
    (newest_in-pairs later block)

-- the positions of an image are the changes that stand in its header and its slots
pub positions_are : (header : Content) (image : Image) (start : ℕ) (changes : List LogChange) (n : ℕ)
    → n ≤ length changes
    → ((k : ℕ) → k < n → (change : LogChange) → slice_get changes k ≡ Some change
    → home_at header (start + k) ≡ change.block)
    → ((k : ℕ) → k < n → (change : LogChange) → slice_get changes k ≡ Some change
    → image (slot_block (start + k)) ≡ change.content)
    → positions header image start n ≡ pairs_of (take n changes)
positions_are header image start changes zero l homes slots = refl
positions_are header image start changes (suc n) l homes slots =
    let lt : n < length changes = omega arith in
    let before = positions_are header image start changes n (omega arith) (λ k h. homes k (omega arith))
    (λ k h. slots k (omega arith)) in
    elim ((slice_get_cases changes n).1) as (λ _. positions header image start (suc n)
    ≡ pairs_of (take (suc n) changes)) [
      | inl found ↦
          let change : LogChange = found.0 in
          let is : slice_get changes n ≡ Some change = found.2 in
          let item : get_or changes n change ≡ change = found.3 in
          let taken : take (suc n) changes ≡ take n changes ++ change ∷ [] = take-suc changes n change lt
          ∙ ap (λ x. take n changes ++ x ∷ []) item in
          rw (before, homes n (omega arith) change is, slots n (omega arith) change is, taken)
          (sym (map-append (λ (x : LogChange). (x.block, x.content)) (take n changes) (change ∷ [])))
      | inr past ↦ absurd (let beyond_all : length changes ≤ n = past.0 in omega arith)
    ]

content_or-or_else : (a b : Option Content) (c : Content)
    → content_or (or_else a b) c ≡ content_or a (content_or b c)
content_or-or_else (Some a) b c = refl
content_or-or_else None b c = refl

-- What an image shows of a log: a header of the first `count` changes, a start behind the first `gone`, and
-- their slots.
pub record Shows (image : Image) (log : Log) (count gone : ℕ) : Type 0 where
  pub within : count ≤ length log.changes
  pub few : count ≤ LOG_SLOTS
  pub behind : gone ≤ count
  pub header : IsHeaderOf log count (image LOG_HEADER_BLOCK)
  pub start : IsStartBehind log gone (image START_BLOCK)
  pub slots : (k : ℕ) → k < count → (change : LogChange) → slice_get log.changes k ≡ Some change
      → image (slot_block (log.start + k)) ≡ change.content

end_shown : (image : Image) (log : Log) (count gone : ℕ) → Shows image log count gone
    → end_in image ≡ log.start + count
end_shown image log count gone s = s.header.0

count_shown : (image : Image) (log : Log) (count gone : ℕ) → Shows image log count gone
    → count_in image ≡ count - gone
count_shown image log count gone s = omega (arith, end_shown image log count gone s, s.start, s.behind)

pub range_shown : (image : Image) (log : Log) (count gone : ℕ) → Shows image log count gone → IsInRange image
range_shown image log count gone s =
    let e = end_shown image log count gone s in
    record { order = omega (arith, e, s.start, s.behind); slots = omega (arith, e, s.start, s.few) }

home_shown : (image : Image) (log : Log) (count gone k : ℕ) (change : LogChange) → Shows image log count gone
    → gone + k < count
    → slice_get log.changes (gone + k) ≡ Some change
    → home_at (image LOG_HEADER_BLOCK) ((log.start + gone) + k) ≡ change.block
home_shown image log count gone k change s lt is =
    let e : (log.start + gone) + k ≡ log.start + (gone + k) = omega arith in
    let n : number_at (image LOG_HEADER_BLOCK) (8 + 8 * (((log.start + gone) + k) % LOG_SLOTS))
    ≡ change.block.0 =
    ap (λ p. number_at (image LOG_HEADER_BLOCK) (8 + 8 * (p % LOG_SLOTS))) e
    ∙ s.header.1 (gone + k) lt change is in
    let f : ℕ → BlockNo = λ number. record { 0 = number } in
    ap f n

slot_shown : (image : Image) (log : Log) (count gone k : ℕ) (change : LogChange) → Shows image log count gone
    → gone + k < count
    → slice_get log.changes (gone + k) ≡ Some change
    → image (slot_block ((log.start + gone) + k)) ≡ change.content
slot_shown image log count gone k change s lt is =
    let e : (log.start + gone) + k ≡ log.start + (gone + k) = omega arith in
    ap (λ p. image (slot_block p)) e ∙ s.slots (gone + k) lt change is

logged_shown : (image : Image) (log : Log) (count gone : ℕ) → Shows image log count gone
    → logged_in image ≡ pairs_of (take (count - gone) (drop gone log.changes))
logged_shown image log count gone s =
    let l : count - gone ≤ length (drop gone log.changes) =
    omega (arith, length-drop gone log.changes, s.within) in
    ap (λ start. positions (image LOG_HEADER_BLOCK) image start (count_in image)) s.start
    ∙ ap (λ n. positions (image LOG_HEADER_BLOCK) image (log.start + gone) n)
    (count_shown image log count gone s)
    ∙ positions_are (image LOG_HEADER_BLOCK) image (log.start + gone) (drop gone log.changes) (count - gone) l
    (λ k h change is. home_shown image log count gone k change s (omega arith)
    (slice_get-drop log.changes gone k change is))
    (λ k h change is. slot_shown image log count gone k change s (omega arith)
    (slice_get-drop log.changes gone k change is))

over_shown : (image : Image) (log : Log) (count gone block : ℕ) → Shows image log count gone
    → over image block ≡ content_or (newest_of (take (count - gone) (drop gone log.changes)) block)
    (image block)
over_shown image log count gone block s =
    ap (λ o. content_or o (image block))
    (ap (λ logged. newest_in logged block) (logged_shown image log count gone s)
    ∙ newest_in-pairs (take (count - gone) (drop gone log.changes)) block)

-- the newest of the first changes, in two parts
newest_of-parts : (changes : List LogChange) (count gone block : ℕ) → gone ≤ count
    → newest_of (take count changes) block
    ≡ or_else (newest_of (take (count - gone) (drop gone changes)) block)
    (newest_of (take gone changes) block)
newest_of-parts changes count gone block h =
    let m : count ≡ gone + (count - gone) = omega arith in
    ap (λ n. newest_of (take n changes) block) m
    ∙ ap (λ xs. newest_of xs block) (take-add gone (count - gone) changes)
    ∙ newest_of-append (take gone changes) (take (count - gone) (drop gone changes)) block

pub homes_shown : (image : Image) (log : Log) (count gone : ℕ) → IsLawful log → Shows image log count gone
    → HasHomes log.blocks image
homes_shown image log count gone h s k lt =
    let n = count_shown image log count gone s in
    let within : gone + k < length log.changes = omega (arith, s.within, s.behind) in
    elim ((slice_get_cases log.changes (gone + k)).1) as (λ _. IsHomeOn log.blocks
    (home_at (image LOG_HEADER_BLOCK) (start_in image + k))) [
      | inl found ↦
          let change : LogChange = found.0 in
          let same : home_at (image LOG_HEADER_BLOCK) (start_in image + k) ≡ change.block =
          ap (λ start. home_at (image LOG_HEADER_BLOCK) (start + k)) s.start
          ∙ home_shown image log count gone k change s (omega arith) found.2 in
          let home : IsHomeOn log.blocks (get_or log.changes (gone + k) change).block =
          All-get_or (λ (x : LogChange). IsHomeOn log.blocks x.block) log.changes (gone + k) change within
          h.homes in
          subst (IsHomeOn log.blocks) (ap (λ (x : LogChange). x.block) found.3 ∙ sym same) home
      | inr past ↦ absurd (let beyond_all : length log.changes ≤ gone + k = past.0 in omega arith)
    ]

content_or-some : (a : Option Content) (c x y : Content)
    → content_or (or_else a (Some c)) x ≡ content_or (or_else a (Some c)) y
content_or-some (Some a) c x y = refl
content_or-some None c x y = refl

over_whole : (image : Image) (log : Log) (count block : ℕ) → Shows image log count 0
    → over image block ≡ content_or (newest_of (take count log.changes) block) (image block)
over_whole image log count block s =
    let e : count - 0 ≡ count = omega arith in
    over_shown image log count 0 block s
    ∙ ap (λ n. content_or (newest_of (take n log.changes) block) (image block)) e

-- nothing raised: what is at home is old or new, and the log lies over both
pub after_unraised : (image base : Image) (log : Log) (count block : ℕ) → Shows image log count 0
    → log.installing ≤ count
    → (image block ≡ base block) ⊎ (brought_home log block ≡ Some (image block))
    → over image block ≡ with_changes base (take count log.changes) block
after_unraised image base log count block s le (inl old) = over_whole image log count block s
    ∙ ap (λ c. content_or (newest_of (take count log.changes) block) c) old
after_unraised image base log count block s le (inr new) =
    let e : newest_of (take count log.changes) block
    ≡ or_else (newest_of (take (count - log.installing) (drop log.installing log.changes)) block)
    (Some (image block)) =
    newest_of-parts log.changes count log.installing block le
    ∙ ap (λ o. or_else (newest_of (take (count - log.installing) (drop log.installing log.changes)) block)
    o) new in
    over_whole image log count block s
    ∙ rw e (content_or-some (newest_of (take (count - log.installing) (drop log.installing log.changes))
    block) (image block) (image block) (base block))

-- raised: what is at home is new, and the rest of the log lies over it
pub after_advanced : (image base : Image) (log : Log) (count block : ℕ) → Shows image log count log.installing
    → image block ≡ with_changes base (take log.installing log.changes) block
    → over image block ≡ with_changes base (take count log.changes) block
after_advanced image base log count block s new =
    let rest : Option Content =
    newest_of (take (count - log.installing) (drop log.installing log.changes)) block in
    over_shown image log count log.installing block s
    ∙ ap (λ c. content_or rest c) new
    ∙ sym (content_or-or_else rest (newest_of (take log.installing log.changes) block) (base block))
    ∙ ap (λ o. content_or o (base block))
    (sym (newest_of-parts log.changes count log.installing block s.behind))

-- new is old or new
new_either : (newest : Option Content) (content old : Content) → content ≡ content_or newest old
    → (content ≡ old) ⊎ (newest ≡ Some content)
new_either (Some c) content old h = inr (ap Some (sym h))
new_either None content old h = inl h

-- how far the start of an image is raised, and what is at home then
pub data Advanced (image base : Image) (log : Log) : Type 0 where
  Unraised : IsStartBehind log 0 (image START_BLOCK)
      → ((block : ℕ) → IsOutside log.blocks block → (image block ≡ base block)
      ⊎ (brought_home log block ≡ Some (image block)))
      → Advanced image base log
  Installed : IsStartBehind log log.installing (image START_BLOCK)
      → ((block : ℕ) → IsOutside log.blocks block
      → image block ≡ with_changes base (take log.installing log.changes) block)
      → Advanced image base log

-- the settled groups, or one more
abbrev IsEnd : Log → ℕ → Type 0
IsEnd log count = (count ≡ log.logged) ⊎ (count ≡ log.logged + log.taken)

shown : (image : Image) (log : Log) (count gone : ℕ) → (gone ≡ 0) ⊎ (gone ≡ log.installing) → IsEnd log count
    → Shows image log count gone → ShowsLog log (start_in image) (logged_in image)
shown image log count gone from to s = record {
  first = gone;
  end = count;
  from = from;
  to = to;
  position = s.start;
  changes = logged_shown image log count gone s;
}

-- What an image with a header of the first so many changes is.
record Opens (image base : Image) (log : Log) (count : ℕ) : Type 0 where
  range : IsInRange image
  homes : HasHomes log.blocks image
  blocks : IsAfter base log count image
  positions : ShowsLog log (start_in image) (logged_in image)

-- it is the blocks after them
boundary_of : (image base : Image) (log : Log) (count : ℕ) → IsLawful log → count ≤ length log.changes
    → count ≤ LOG_SLOTS → log.installing ≤ count → IsEnd log count
    → IsHeaderOf log count (image LOG_HEADER_BLOCK)
    → ((k : ℕ) → k < count → (change : LogChange) → slice_get log.changes k ≡ Some change
    → image (slot_block (log.start + k)) ≡ change.content)
    → Advanced image base log → Opens image base log count
boundary_of image base log count h within few le to header slots (Unraised start home) =
    let s : Shows image log count 0 =
    record {
      within = within;
      few = few;
      behind = omega arith;
      header = header;
      start = start;
      slots = slots;
    } in
    record {
      range = range_shown image log count 0 s;
      homes = homes_shown image log count 0 h s;
      blocks = λ block outside. after_unraised image base log count block s le (home block outside);
      positions = shown image log count 0 (inl refl) to s;
    }
boundary_of image base log count h within few le to header slots (Installed start home) =
    let s : Shows image log count log.installing =
    record { within = within; few = few; behind = le; header = header; start = start; slots = slots } in
    record {
      range = range_shown image log count log.installing s;
      homes = homes_shown image log count log.installing h s;
      blocks = λ block outside. after_advanced image base log count block s (home block outside);
      positions = shown image log count log.installing (inr refl) to s;
    }

advanced_of : (d : Device) (base : Image) (log : Log) (image : Image) → IsLawful log → Agrees d base log
    → IsCrashImage d d.clock image → Advanced image base log
advanced_of d base log image h a crash =
    let at : START_BLOCK < d.size = omega (arith, h.disk, a.size) in
    let outside : (block : ℕ) → IsOutside log.blocks block
    → block < d.size = λ block o. omega (arith, o.0, a.size) in
    elim (cases_lt log.installing log.inst_step) as (λ _. Advanced image base log) [
      | inl made ↦
          let new : (block : ℕ) → IsOutside log.blocks block
          → image block ≡ with_changes base (take log.installing log.changes) block =
          λ block o. a.homes.brought made block o (image block) (crash block (outside block o)) in
          elim (a.homes.advanced_start made (image START_BLOCK) (crash START_BLOCK at)) as (λ _. Advanced image
          base log) [
            | inl start ↦ Unraised start
                (λ block o. new_either (newest_of (take log.installing log.changes) block) (image block)
                (base block) (new block o))
            | inr start ↦ Installed start new
          ]
      | inr notyet ↦ Unraised (a.homes.start notyet (image START_BLOCK) (crash START_BLOCK at))
          (λ block o. a.homes.home notyet block o (image block) (crash block (outside block o)))
    ]

slots_of : (d : Device) (base : Image) (log : Log) (image : Image) (count : ℕ) → IsLawful log
    → Agrees d base log → IsCrashImage d d.clock image → HoldsSlots d log count
    → (k : ℕ) → k < count → (change : LogChange) → slice_get log.changes k ≡ Some change
    → image (slot_block (log.start + k)) ≡ change.content
slots_of d base log image count h a crash holds k lt change is =
    let within : slot_block (log.start + k) < d.size = omega (arith, h.disk, a.size) in
    holds k lt change is (image (slot_block (log.start + k))) (crash (slot_block (log.start + k)) within)

-- a crash leaves a group boundary
pub crash_boundary : (d : Device) (base : Image) (log : Log) (image : Image) → IsLawful log
    → Agrees d base log → IsCrashImage d d.clock image → IsBoundary base log image
crash_boundary d base log image h a crash =
    let there = crash LOG_HEADER_BLOCK at in
    elim (cases_lt log.taken log.log_step) as (λ _. IsBoundary base log image) [
      | inl made ↦ elim (a.own.group_header made (image LOG_HEADER_BLOCK) there) as (λ _. IsBoundary base log
          image) [
            | inl header ↦ old header
            | inr header ↦ new made header
          ]
      | inr notyet ↦ old (a.own.header notyet (image LOG_HEADER_BLOCK) there)
    ]
  where
    advanced : Advanced image base log
    advanced = advanced_of d base log image h a crash

    at : LOG_HEADER_BLOCK < d.size
    at = omega (arith, h.disk, a.size)

    old : IsHeaderOf log log.logged (image LOG_HEADER_BLOCK) → IsBoundary base log image
    old header =
        let o = boundary_of image base log log.logged h (omega (arith, h.taken_within))
        (omega (arith, h.slots)) h.installing (inl refl) header
        (slots_of d base log image log.logged h a crash a.own.slots) advanced in
        record { range = o.range; homes = o.homes; blocks = inl o.blocks; positions = o.positions }

    new : log.taken < log.log_step → IsHeaderOf log (log.logged + log.taken) (image LOG_HEADER_BLOCK)
        → IsBoundary base log image
    new made header =
        let o = boundary_of image base log (log.logged + log.taken) h h.taken_within h.slots
        (omega (arith, h.installing)) (inr refl) header
        (slots_of d base log image (log.logged + log.taken) h a crash (a.own.group_slots made)) advanced in
        record { range = o.range; homes = o.homes; blocks = inr o.blocks; positions = o.positions }
