-- The history is that of the events, with a procedure more or without.
use Rattle.std.proofs.Common.{◌≡◌, ◌⊎◌, inl, inr, ℕ, ◌+◌, ◌<◌, ◌≤◌, ap, sym, ◌∙◌, refl, subst, arith, length}
use Rattle.std.proofs.Common.{slice_get, List, Option, Some, None, false, true}
use Rattle.std.proofs.lemmas.Option.{slice_get_within}
use Rattle.disk.specs.declared.block.BlockNo.{BlockNo}
use Rattle.nfs_types.specs.declared.ctx.Ctx.{Ctx}
use Rattle.store_promise.specs.declared.events.Event.{Event}
use Rattle.store_promise.specs.declared.events.Step.{Step}
use Rattle.store_promise.specs.declared.transcript.Committed.{Committed}
use Rattle.store_promise.specs.History.{IsHistory, WasCommitted}
use Rattle.store_promise.specs.Schedule.{Schedule, progress_before}
use Rattle.store_promise.specs.Transcript.{Transcript, committed_at, device_calls, made, step_at}
use Rattle.store_promise.proofs.RunStates.{step_is}
use Rattle.store_law.specs.Runs.Ledger.{AreNumbered, number_out}
use Rattle.store_law.specs.Runs.Tracing.{IsCommitOf, IsEntryOf, Traced, commits, state_now, with_traced}
use Rattle.store_law.proofs.RunsLemmas.EntriesCommits.{commit_of, same_place}
use Rattle.store_law.proofs.RunsLemmas.StateGrows.{calls_earlier, committed_preserved, committed_now, either, progress_earlier}
use Rattle.store_law.proofs.RunsLemmas.StateGrows.{step_preserved, step_now, step_within}

-- the number of the transaction of a procedure that is committed is out until then
pub number_of : (events : Schedule) (t : Transcript) (now : Event) (made : Option Step) (c : Committed)
    (is : IsCommitOf events t now made c) → number_out ((state_now events t).workers c.worker) ≡ Some
    c.ctx.transaction
number_of events t now made c is =
    ap number_out is.planned ∙ ap (λ (n : ℕ). Some n) (sym (ap (λ (ctx : Ctx). ctx.transaction) is.ctx))

-- a procedure is one that there was, or the one that the event commits
abbrev pub EntryComes : Schedule → Transcript → Event → Option Step → ℕ → Committed → Type 0
EntryComes events t now made index c = (slice_get t.history index ≡ Some c)
    ⊎ ((index ≡ length t.history) × IsCommitOf events t now made c)

pub entry_comes : (events : Schedule) (t : Transcript) (now : Event) (traced : Traced)
    → IsEntryOf events t now traced.made traced.entry → (index : ℕ) (c : Committed)
    → slice_get (with_traced t traced).history index ≡ Some c → EntryComes events t now traced.made index c
entry_comes events t now traced tells index c is = by_either (either t.history traced.entry index c is)
  where
    by_either : (slice_get t.history index ≡ Some c) ⊎ ((index ≡ length t.history) × (traced.entry ≡ Some c))
        → EntryComes events t now traced.made index c
    by_either (inl old) = inl old
    by_either (inr new) = inr (
      new.0,
      subst (λ (entry : Option Committed). IsEntryOf events t now traced.made entry) new.1 tells,
    )

module _ (events : Schedule) (t : Transcript) (now : Event) (traced : Traced)
    (is_event : slice_get events (length t.steps) ≡ Some now) (history : IsHistory events t)
    (numbered : AreNumbered (state_now events t) t.history)
    (tells : IsEntryOf events t now traced.made traced.entry) where
  abbrev grown : Transcript
  grown = with_traced t traced

  abbrev Comes : ℕ → Committed → Type 0
  Comes index c = EntryComes events t now traced.made index c

  comes : (index : ℕ) (c : Committed) → slice_get grown.history index ≡ Some c → Comes index c
  comes index c is = entry_comes events t now traced tells index c is

  still : (place : ℕ) (c : Committed) → WasCommitted events t place c → WasCommitted events grown place c
  still place c was =
      let less = step_within t c.event (commit_of was.blocks place) was.step in
      let few : c.event ≤ length t.steps = omega (arith, less) in
      record {
        event = was.event;
        blocks = was.blocks;
        step = step_preserved t traced c.event (commit_of was.blocks place) was.step;
        job = was.job;
        begun = was.begun;
        planned = progress_earlier events t.steps traced.made c.worker c.event few ∙ was.planned;
        ctx = was.ctx;
        call = was.call;
        clock = was.clock ∙ sym (calls_earlier t traced c.event few);
      }

  newly : (c : Committed) → IsCommitOf events t now traced.made c
      → WasCommitted events grown (length t.history + 1) c
  newly c is = record {
    event = ap (slice_get events) is.event ∙ is_event ∙ ap (λ (e : Event). Some e) is.event_is;
    blocks = is.blocks;
    step = ap (step_at grown) is.event ∙ step_now t traced ∙ is.made_is;
    job = is.job;
    begun = is.begun;
    planned = ap (λ (n : ℕ). progress_before events grown.steps c.worker n) is.event
        ∙ progress_earlier events t.steps traced.made c.worker (length t.steps) (omega arith) ∙ is.planned;
    ctx = is.ctx;
    call = is.call;
    clock = is.clock ∙ sym (calls_earlier t traced (length t.steps) (omega arith))
        ∙ ap (device_calls grown) (sym is.event);
  }

  was_committed : (index : ℕ) (c : Committed) → Comes index c → WasCommitted events grown (index + 1) c
  was_committed index c (inl old) = still (index + 1) c (history.each index c old)
  was_committed index c (inr new) =
      subst (λ (n : ℕ). WasCommitted events grown (n + 1) c) (sym new.0) (newly c new.1)

  -- ---- each commit has its procedure

  abbrev HasEntry : ℕ → ℕ → Type 0
  HasEntry at place = (c : Committed) × (committed_at grown place ≡ Some c) × (c.event ≡ at)

  entry_now : (entry : Option Committed) → traced.entry ≡ entry → IsEntryOf events t now traced.made entry
      → (place : ℕ) (blocks : List BlockNo) → traced.made ≡ Some (commit_of blocks place)
      → HasEntry (length t.steps) place
  entry_now None is never place blocks committed =
      let commit : commits traced.made ≡ true = ap commits committed in
      let both : false ≡ true = sym never ∙ commit in
      cc
  entry_now (Some c) is of place blocks committed =
      let place_is = same_place of.blocks blocks (length t.history + 1) place (sym of.made_is ∙ committed) in
      (c, ap (committed_at grown) (sym place_is) ∙ committed_now t traced c is, of.event)

  has_entry : (at place : ℕ) (blocks : List BlockNo) → (slice_get t.steps at ≡ Some (Some (commit_of blocks place)))
      ⊎ ((at ≡ length t.steps) × (Some traced.made ≡ Some (Some (commit_of blocks place)))) → HasEntry at place
  has_entry at place blocks (inl old) =
      let found = history.whole at place blocks (ap made old) in
      (found.0, committed_preserved t traced place found.0 found.1, found.2)
  has_entry at place blocks (inr new) =
      let committed : traced.made ≡ Some (commit_of blocks place) = let is = new.1 in cc in
      let found = entry_now traced.entry refl tells place blocks committed in
      (found.0, found.1, found.2 ∙ sym new.0)

  -- ---- their order and their numbers

  event_before : (index : ℕ) (c : Committed) → slice_get t.history index ≡ Some c → c.event < length t.steps
  event_before index c old =
      let was = history.each index c old in
      step_within t c.event (commit_of was.blocks (index + 1)) was.step

  in_order : (one other : ℕ) (a b : Committed) → Comes one a → Comes other b → one < other → a.event < b.event
  in_order one other a b (inl first) (inl second) less = history.ordered one other a b first second less
  in_order one other a b (inl first) (inr second) less =
      let early = event_before one a first in
      let last = second.1.event in
      omega (arith, early, last)
  in_order one other a b (inr first) (inl second) less =
      let few = slice_get_within t.history other b second in
      let at = first.0 in
      absurd (omega (arith, few, at, less))
  in_order one other a b (inr first) (inr second) less =
      let at = first.0 in
      let so = second.0 in
      absurd (omega (arith, at, so, less))

  unique : (one other : ℕ) (a b : Committed) → Comes one a → Comes other b
      → a.ctx.transaction ≡ b.ctx.transaction → one ≡ other
  unique one other a b (inl first) (inl second) same = history.numbers one other a b first second same
  unique one other a b (inl first) (inr second) same =
      absurd (numbered.unused b.worker b.ctx.transaction one a
      (number_of events t now traced.made b second.1) first same)
  unique one other a b (inr first) (inl second) same =
      absurd (numbered.unused a.worker a.ctx.transaction other b
      (number_of events t now traced.made a first.1) second (sym same))
  unique one other a b (inr first) (inr second) same = first.0 ∙ sym second.0

  pub history_on : IsHistory events grown
  history_on = record {
    each = λ index c is. was_committed index c (comes index c is);
    whole = λ at place blocks is. has_entry at place blocks
        (either t.steps (Some traced.made) at (Some (commit_of blocks place))
        (step_is grown at (commit_of blocks place) is));
    ordered = λ one other a b is so less. in_order one other a b (comes one a is) (comes other b so) less;
    numbers = λ one other a b is so same. unique one other a b (comes one a is) (comes other b so) same;
  }
