-- What each stop so far leaves of a run stays so with the next event; and what a stop leaves now.
use Rattle.std.proofs.Common.{◌≡◌, ◌⊎◌, inl, inr, ℕ, zero, suc, ◌+◌, ◌-◌, ◌<◌, ◌≤◌, refl, sym, subst, ap, ◌∙◌}
use Rattle.std.proofs.Common.{arith}
use Rattle.std.proofs.Common.{Bool, true, false, nat_le, nat_lt, List, [], ◌∷◌, ◌++◌, Option, Some}
use Rattle.std.proofs.Common.{count_by, length, length-append, map, take, slice_get}
use Rattle.std.proofs.lemmas.Bool.{le-leb, leb-true, leb-false, ltb-true, ltb-false}
use Rattle.std.proofs.lemmas.List.{map-append, take-append-le, take_all}
use Rattle.std.proofs.lemmas.List.Sums.{count_by-le-length, sum_by-append, sum_by_push}
use Rattle.std.specs.Prelude.{Contains}
use Rattle.disk.specs.Crash.{Image, IsCrashImage}
use Rattle.disk.specs.Device.{Content, Device}
use Rattle.layout.specs.Homes.{homes_of}
use Rattle.nfs_spec.specs.Model.Entry.{Entry}
use Rattle.nfs_spec.specs.Procedures.After.{after}
use Rattle.nfs_spec.specs.Model.Tree.{Tree}
use Rattle.txn_law.specs.Fetch.{Fetch}
use Rattle.circ.specs.Log.Log.{installed_place, settled_place}
use Rattle.circ.specs.Log.Overlay.{over}
use Rattle.store_promise.specs.declared.events.Step.{Step}
use Rattle.store_promise.specs.declared.transcript.Committed.{Committed}
use Rattle.store_promise.specs.GoodImage.{IsGoodImage}
use Rattle.store_promise.specs.LogState.{state_settled}
use Rattle.store_promise.specs.Openings.{IsLater}
use Rattle.store_promise.specs.OpenSince.{LeavesBlocks, blocks_after}
use Rattle.store_promise.specs.FailedCalls.{one_if}
use Rattle.store_promise.specs.Running.{StoreState}
use Rattle.store_promise.specs.Schedule.{Schedule, Setting, state_before}
use Rattle.store_promise.specs.Transcript.{Transcript, calls_device, commits_by, device_calls, entries_of}
use Rattle.store_promise.specs.Transcript.{entry_of}
use Rattle.store_law.specs.Runs.Tracing.{Traced, clock_now, listed, state_now, with_traced}
use Rattle.store_law.specs.Runs.Past.{HasLeft, LeavesSoFar, WasSettledBy}
use Rattle.store_law.specs.Runs.Run.{Beginning, GoesOn, IsRun}
use Rattle.store_law.proofs.RunsLemmas.Settled.{settled_state_stays}

-- ---- the images of a moment so far

pub as_before : (old new : Device) (clock : ℕ) (image : Image) → IsLater old new → clock ≤ old.clock
    → IsCrashImage new clock image → IsCrashImage old clock image
as_before old new clock image later early crash = λ block within.
    let size = later.size in
    subst (λ (contents : List Content). Contains contents (image block)) (later.past clock block early)
    (crash block (omega (arith, size, within)))

pub either : (clock now : ℕ) → clock ≤ now → (clock < now) ⊎ (clock ≡ now)
either clock now within = by_test (nat_lt clock now) refl
  where
    by_test : (t : Bool) → nat_lt clock now ≡ t → (clock < now) ⊎ (clock ≡ now)
    by_test true is = inl (ltb-true clock now is)
    by_test false is = let from = ltb-false clock now is in inr (omega (arith, from, within))

-- ---- what was told stays

count_more : {X : Type 0} (test : X → Bool) (xs ys : List X) → count_by test xs ≤ count_by test (xs ++ ys)
count_more test xs ys = let is = sum_by-append (λ x. one_if (test x)) xs ys in omega (arith, is)

pub device_calls_stay : (t : Transcript) (traced : Traced) (index : ℕ) → index ≤ length t.steps
    → device_calls (with_traced t traced) index ≡ device_calls t index
device_calls_stay t traced index within =
    ap (λ (steps : List (Option Step)). count_by calls_device steps)
    (take-append-le index t.steps (traced.made ∷ []) within)

pub clock_is : (t : Transcript) → clock_now t ≡ count_by calls_device t.steps
clock_is t = ap (λ (steps : List (Option Step)). count_by calls_device steps)
    (take_all (length t.steps) t.steps (omega arith))

pub clock_then : (t : Transcript) (traced : Traced)
    → clock_now (with_traced t traced) ≡ clock_now t + one_if (calls_device traced.made)
clock_then t traced = clock_is (with_traced t traced)
    ∙ sum_by_push (λ made. one_if (calls_device made)) t.steps traced.made
    ∙ ap (λ (n : ℕ). n + one_if (calls_device traced.made)) (sym (clock_is t))

entries_then : (t : Transcript) (traced : Traced)
    → entries_of (with_traced t traced) ≡ entries_of t ++ map entry_of (listed traced.entry)
entries_then t traced = map-append entry_of t.history (listed traced.entry)

-- ---- a stop before the event's call leaves what it left

module _ (size first : ℕ) (tree : Tree) (events : Schedule) (start : ℕ) (t : Transcript) (traced : Traced)
    (blocks later : ℕ → Image) (clock : ℕ) (image : Image)
    (same : (place : ℕ) → place ≤ length t.history → later place ≡ blocks place)
    (state_stays : (index : ℕ) → index ≤ length t.steps
    → state_before events (with_traced t traced).steps index ≡ state_before events t.steps index)
    (before_it : clock < start + clock_now (with_traced t traced))
    (left : LeavesSoFar size first tree events start t blocks clock image) where
  few : left.prefix.count ≤ length t.history
  few =
      let a = left.prefix.few in
      let b = count_by-le-length (λ (c : Committed). nat_le (start + c.clock) clock) t.history in
      omega (arith, a, b)

  was_settled : (place : ℕ) → WasSettledBy events start (with_traced t traced) clock place
      → WasSettledBy events start t clock place
  was_settled place settled_then = by_index (either settled_then.index (length t.steps + 1) within)
    where
      within : settled_then.index ≤ length t.steps + 1
      within = let a = settled_then.within in let b = length-append t.steps (traced.made ∷ []) in omega (arith, a, b)

      by_index : (settled_then.index < length t.steps + 1) ⊎ (settled_then.index ≡ length t.steps + 1)
          → WasSettledBy events start t clock place
      by_index (inl early) =
          let soon : settled_then.index ≤ length t.steps = omega (arith, early) in
          let calls = device_calls_stay t traced settled_then.index soon in
          let by = settled_then.by in
          let settled = settled_then.settled in
          let stays = ap (λ run_state. state_settled run_state.log) (state_stays settled_then.index soon) in
          record {
            index = settled_then.index;
            within = soon;
            by = omega (arith, calls, by);
            settled = omega (arith, settled, stays);
          }
      by_index (inr late) =
          let long = length-append t.steps (traced.made ∷ []) in
          let at : settled_then.index ≡ length (with_traced t traced).steps = omega (arith, late, long) in
          let calls = ap (λ (n : ℕ). device_calls (with_traced t traced) n) at in
          let by = settled_then.by in
          absurd (omega (arith, calls, by, before_it))

  pub left_then : LeavesSoFar size first tree events start (with_traced t traced) later clock image
  left_then = record {
    prefix = record {
      boot = left.prefix.boot;
      boot_is = left.prefix.boot_is;
      left = left.prefix.left;
      good = left.prefix.good;
      count = left.prefix.count;
      few = (let a = left.prefix.few in
          let b = count_more (λ (c : Committed). nat_le (start + c.clock) clock) t.history
          (listed traced.entry) in
          omega (arith, a, b));
      prefix = subst (λ (es : List Entry). after tree es left.prefix.left) (sym entries_are) left.prefix.prefix;
      lasts = λ place settled_then. left.prefix.lasts place (was_settled place settled_then);
    };
    homes = λ since. left.homes since ∙ sym (same left.prefix.count few);
  }
    where
      entries_are : take left.prefix.count (entries_of (with_traced t traced))
          ≡ take left.prefix.count (entries_of t)
      entries_are =
          let long : length (entries_of t) ≡ length t.history = length_map t.history in
          let fits = few in
          ap (λ (es : List Entry). take left.prefix.count es) (entries_then t traced)
          ∙ take-append-le left.prefix.count (entries_of t) (map entry_of (listed traced.entry))
          (omega (arith, long, fits))
        where
          length_map : (cs : List Committed) → length (map entry_of cs) ≡ length cs
          length_map [] = refl
          length_map (c ∷ cs) = ap suc (length_map cs)

-- ---- what a stop leaves now

-- every procedure was committed by now
all_by_now : (start : ℕ) (t : Transcript) (now : ℕ)
    → ((index : ℕ) (c : Committed) → slice_get t.history index ≡ Some c → start + c.clock ≤ now)
    → commits_by start t now ≡ length t.history
all_by_now start t now early = go t.history early
  where
    go : (cs : List Committed) → ((index : ℕ) (c : Committed) → slice_get cs index ≡ Some c
        → start + c.clock ≤ now)
        → count_by (λ (c : Committed). nat_le (start + c.clock) now) cs ≡ length cs
    go [] early = refl
    go (c ∷ cs) early =
        let first = le-leb (start + c.clock) now (early 0 c refl) in
        let rest = go cs (λ index d at. early (suc index) d at) in
        let count = sum_by-append (λ (c : Committed). one_if (nat_le (start + c.clock) now)) (c ∷ []) cs in
        let one = ap one_if first in
        omega (arith, count, one, rest)

module _ (b : Beginning) (o : Setting) (t : Transcript) (base : Image) (store_state : StoreState) (fetches : List Fetch)
    (last : Tree) (run : IsRun b o t base store_state fetches last) (image : Image)
    (stop : LeavesBlocks base store_state.core (b.first + 1) b.tree (entries_of t) image)
    (settled_is : state_settled (state_now b.events t).log ≡ settled_place store_state.core.log) where
  abbrev start : ℕ
  start = b.opened.clock

  pub now_is : store_state.device.clock ≡ start + clock_now t
  now_is = let moved = run.moved.calls in let clock = clock_is t in omega (arith, moved, clock)

  size_is : store_state.core.log.blocks ≡ b.opened.size
  size_is = sym run.running.since.over.agrees.agrees.size ∙ run.moved.past.size

  calls_before : (index : ℕ) → index ≤ length t.steps → device_calls t index ≤ clock_now t
  calls_before index within = prefix_le t.steps index (length t.steps) within
    where
      prefix_le : (steps : List (Option Step)) (one other : ℕ) → one ≤ other
          → count_by calls_device (take one steps) ≤ count_by calls_device (take other steps)
      prefix_le steps zero other early = omega arith
      prefix_le [] (suc one) other early = omega arith
      prefix_le (step ∷ steps) (suc one) zero early = absurd (omega (arith, early))
      prefix_le (step ∷ steps) (suc one) (suc other) early =
          let rest = prefix_le steps one other (omega (arith, early)) in
          let a = sum_by-append (λ made. one_if (calls_device made)) (step ∷ []) (take one steps) in
          let b = sum_by-append (λ made. one_if (calls_device made)) (step ∷ []) (take other steps) in
          omega (arith, rest, a, b)

  -- each was committed at a clock so far
  committed_by_now : (index : ℕ) (c : Committed) → slice_get t.history index ≡ Some c
      → start + c.clock ≤ store_state.device.clock
  committed_by_now index c at =
      let was = run.well.history.each index c at in
      let clock = was.clock in
      let calls = calls_before_event c.event in
      let now = now_is in
      omega (arith, clock, calls, now)
    where
      calls_before_event : (event : ℕ) → device_calls t event ≤ clock_now t
      calls_before_event event = by_length (nat_le event (length t.steps)) refl
        where
          by_length : (is : Bool) → nat_le event (length t.steps) ≡ is → device_calls t event ≤ clock_now t
          by_length true is = calls_before event (leb-true event (length t.steps) is)
          by_length false is =
              let beyond_all = leb-false event (length t.steps) is in
              let all : device_calls t event ≡ clock_now t =
              ap (λ (steps : List (Option Step)). count_by calls_device steps)
              (take_all event t.steps (omega (arith, beyond_all)))
              ∙ sym (clock_is t) in
              omega (arith, all)

  pub left_now : LeavesSoFar b.opened.size b.first b.tree b.events start t o.blocks store_state.device.clock image
  left_now = record {
    prefix = record {
      boot = stop.files.boot;
      boot_is = record { either = inr stop.files.boot_is; boot_incremented = λ since. stop.files.boot_is };
      left = stop.files.left;
      good = subst (λ (size : ℕ). IsGoodImage size image stop.files.left stop.files.boot) size_is
          stop.files.good;
      count = stop.files.count;
      few = (let few = stop.files.few in
          let all = all_by_now start t store_state.device.clock committed_by_now in
          let long = length_entries t.history in
          omega (arith, few, all, long));
      prefix = stop.files.prefix;
      lasts = λ place settled_then. stop.files.lasts place (
          let rises = settled_state_stays b.events t.steps settled_then.index (length t.steps) settled_then.within in
          let settled = settled_then.settled in
          let is = settled_is in
          omega (arith, rises, settled, is));
    };
    homes = λ since. subst (λ (size : ℕ). homes_of size (over image)
        ≡ blocks_after base store_state.core (stop.files.count - installed_place store_state.core.log)) size_is stop.homes
        ∙ sym (run.running.placed (stop.files.count - installed_place store_state.core.log))
        ∙ ap o.blocks (let behind = stop.behind in omega (arith, behind));
  }
    where
      length_entries : (cs : List Committed) → length (map entry_of cs) ≡ length cs
      length_entries [] = refl
      length_entries (c ∷ cs) = ap suc (length_entries cs)

-- ---- the past once an event was taken

module _ (b : Beginning) (o later : Setting) (t : Transcript) (base home : Image) (store_state new : StoreState)
    (fetches left : List Fetch) (last next : Tree) (traced : Traced)
    (run : IsRun b o t base store_state fetches last) (goes : GoesOn b o t store_state traced later home new left next)
    (state_stays : (index : ℕ) → index ≤ length t.steps
    → state_before b.events (with_traced t traced).steps index ≡ state_before b.events t.steps index)
    (now : (image : Image) → IsCrashImage store_state.device store_state.device.clock image
    → LeavesSoFar b.opened.size b.first b.tree b.events b.opened.clock t o.blocks store_state.device.clock image) where
  clock_new : new.device.clock ≡ b.opened.clock + clock_now (with_traced t traced)
  clock_new =
      let moved = run.moved.calls in
      let clock = clock_is t in
      let calls = goes.device.calls in
      let more = clock_then t traced in
      omega (arith, moved, clock, calls, more)

  pub past_then : HasLeft b.before b.opened.size b.first b.tree b.events b.opened.clock (with_traced t traced)
      later.blocks new.device
  past_then clock image from to crash =
      left_then b.opened.size b.first b.tree b.events b.opened.clock t traced o.blocks later.blocks clock image
      goes.blocks state_stays (let is = clock_new in omega (arith, to, is))
      (by_clock (either clock store_state.device.clock so_far))
    where
      so_far : clock ≤ store_state.device.clock
      so_far = let calls = goes.device.calls in let few = at_most (calls_device traced.made) in
          omega (arith, to, calls, few)
        where
          at_most : (is : Bool) → one_if is ≤ 1
          at_most true = omega arith
          at_most false = omega arith

      before_it : IsCrashImage store_state.device clock image
      before_it = as_before store_state.device new.device clock image goes.device.past so_far crash

      by_clock : (clock < store_state.device.clock) ⊎ (clock ≡ store_state.device.clock)
          → LeavesSoFar b.opened.size b.first b.tree b.events b.opened.clock t o.blocks clock image
      by_clock (inl early) = run.past clock image from early before_it
      by_clock (inr at) =
          subst (λ (n : ℕ). LeavesSoFar b.opened.size b.first b.tree b.events b.opened.clock t o.blocks n image)
          (sym at) (now image (subst (λ (n : ℕ). IsCrashImage store_state.device n image) at before_it))
