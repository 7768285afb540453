-- Each procedure changed only what its transaction had, with a procedure more or without.
use Rattle.std.proofs.Common.{◌≡◌, ◌⊎◌, inl, inr, ℕ, ◌+◌, ◌≤◌, ap, sym, ◌∙◌, subst, arith, length, slice_get}
use Rattle.std.proofs.Common.{Option, Some}
use Rattle.std.proofs.lemmas.Option.{slice_get_within}
use Rattle.disk.specs.Crash.{Image}
use Rattle.store_promise.specs.Changes.{ChangeTheirOwn, ChangesItsOwn, PreservesOthers}
use Rattle.store_promise.specs.declared.events.Event.{Event}
use Rattle.store_promise.specs.declared.transcript.Committed.{Committed}
use Rattle.store_promise.specs.History.{IsHistory}
use Rattle.store_promise.specs.Schedule.{Schedule, progress_before}
use Rattle.store_promise.specs.Transcript.{Transcript, step_at}
use Rattle.store_law.specs.Runs.Tracing.{IsEntryOf, Traced, with_traced}
use Rattle.store_law.specs.Runs.Run.{ChangesOwnIn}
use Rattle.store_law.proofs.RunsLemmas.EntriesCommits.{commit_of}
use Rattle.store_law.proofs.RunsLemmas.StateGrows.{either, progress_earlier, step_preserved, step_now, step_within}

module _ (size : ℕ) (events : Schedule) (t : Transcript) (now : Event) (traced : Traced)
    (history : IsHistory events t) (tells : IsEntryOf events t now traced.made traced.entry) (old new : ℕ → Image)
    (same : (place : ℕ) → place ≤ length t.history → new place ≡ old place)
    (changed : ChangeTheirOwn size events t old)
    (adds : ChangesOwnIn size events t new traced.made traced.entry) where
  abbrev grown : Transcript
  grown = with_traced t traced

  still : (index : ℕ) (c : Committed) → slice_get t.history index ≡ Some c
      → ChangesItsOwn size events grown new index c
  still index c there =
      let was = history.each index c there in
      let less = step_within t c.event (commit_of was.blocks (index + 1)) was.step in
      let few : c.event ≤ length t.steps = omega (arith, less) in
      let within = slice_get_within t.history index c there in
      let own = changed index c there in
      record {
        job = own.job;
        begun = own.begun;
        planned = progress_earlier events t.steps traced.made c.worker c.event few ∙ own.planned;
        named = own.named;
        step = step_preserved t traced c.event (commit_of own.named (index + 1)) own.step;
        others = subst (λ (next : Image). PreservesOthers size own.begun (new index) next)
            (sym (same (index + 1) (omega (arith, within))))
            (subst (λ (here : Image). PreservesOthers size own.begun here (old (index + 1)))
            (sym (same index (omega (arith, within)))) own.others);
        unnamed = λ block inside lacks. ap (λ (image : Image). image block.0) (same (index + 1) (omega (arith, within)))
            ∙ own.unnamed block inside lacks
            ∙ sym (ap (λ (image : Image). image block.0) (same index (omega (arith, within))));
      }

  newly : (c : Committed) → traced.entry ≡ Some c → ChangesItsOwn size events grown new (length t.history) c
  newly c is =
      let own = subst (λ (entry : Option Committed). ChangesOwnIn size events t new traced.made entry) is adds in
      let of = subst (λ (entry : Option Committed). IsEntryOf events t now traced.made entry) is tells in
      record {
        job = own.job;
        begun = own.begun;
        planned = ap (λ (n : ℕ). progress_before events grown.steps c.worker n) of.event
            ∙ progress_earlier events t.steps traced.made c.worker (length t.steps) (omega arith) ∙ own.planned;
        named = own.named;
        step = ap (step_at grown) of.event ∙ step_now t traced ∙ own.made_is;
        others = own.others;
        unnamed = own.unnamed;
      }

  by_either : (index : ℕ) (c : Committed)
      → (slice_get t.history index ≡ Some c) ⊎ ((index ≡ length t.history) × (traced.entry ≡ Some c))
      → ChangesItsOwn size events grown new index c
  by_either index c (inl there) = still index c there
  by_either index c (inr last) =
      subst (λ (n : ℕ). ChangesItsOwn size events grown new n c) (sym last.0) (newly c last.1)

  pub changes_on : ChangeTheirOwn size events grown new
  changes_on index c is = by_either index c (either t.history traced.entry index c is)
