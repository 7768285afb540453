use Rattle.std.proofs.Common.{◌≡◌, sym, subst, length}
use Rattle.store_promise.specs.Schedule.{RunState, state_after}
use Rattle.store_law.specs.Runs.Ledger.{AreNumbered, ArePlaced}
use Rattle.store_law.specs.Runs.Tracing.{state_now, with_traced}
use Rattle.store_law.proofs.RunsLemmas.AnswersGrow.{answers_on}
use Rattle.store_law.proofs.RunsLemmas.AnswersPlaces.{waits_on}
use Rattle.store_law.proofs.RunsLemmas.EntriesGrow.{history_on}
use Rattle.store_law.proofs.RunsLemmas.StateGrows.{state_at_last}
use Rattle.store_law.proofs.RunsLemmas.StateNumbers.{numbers_on}
use Rattle.store_law.proofs.RunsLemmas.StatePlaces.{places_on}
use Rattle.store_law.proofs.RunsLemmas.StateTaken.{taken_on}
use Rattle.store_law.proofs.runs.trace_laws.what_is_traced_grows.Goals as goal

pub returns-clause-state_follows : goal.returns-clause-state_follows
returns-clause-state_follows c = λ b t event traced is_event. state_at_last b.events t.steps traced.made event is_event

pub returns-clause-well : goal.returns-clause-well
returns-clause-well c = λ b o later t event traced is_event well same blocks taken tells.
    let run_state = state_now b.events t in
    let next = state_after run_state event traced.made in
    let grown = with_traced t traced in
    let last = sym (state_at_last b.events t.steps traced.made event is_event) in
    let places : next.log.places ≡ length grown.history =
    places_on b.events t event traced.made traced.entry well.ledger.places tells.entry in
    record {
      taken = taken_on o later b.workers b.events t event traced c.what_was_made_stays.ensures is_event
          well.ledger.places same blocks well.taken taken;
      history = history_on b.events t event traced is_event well.history well.ledger.numbers tells.entry;
      answers = answers_on o b.workers b.events t event traced is_event taken well.ledger.places
          well.ledger.waits well.answers tells.answer;
      ledger = record {
        places = subst (λ (run_state : RunState). run_state.log.places ≡ length grown.history) last places;
        numbers = subst (λ (run_state : RunState). AreNumbered run_state grown.history) last
            (numbers_on o b.workers b.events t event traced taken well.ledger.numbers tells.entry);
        waits = subst (λ (run_state : RunState). ArePlaced run_state grown.history grown.answers) last
            (waits_on o b.workers b.events t event traced taken well.ledger.places well.ledger.waits
            tells.answer places);
      };
    }
