use Rattle.std.proofs.Common.{◌≡◌, ap, sym, ◌∙◌, Some}
use Rattle.store_promise.specs.declared.events.Event.{Event}
use Rattle.store_promise.specs.declared.events.Event.TheVariants as event
use Rattle.store_promise.proofs.RunStates.{was_handed, handed}
use Rattle.store_promise.proofs.promises.an_entry_was_called.Goals as goal

pub returns : goal.returns
returns c = λ before later tree first workers index events t entry is_entry uncalled is_preserved.
    let committed = is_preserved.replies.history.each index entry is_entry in
    let found = was_handed events t.steps entry.event entry.worker committed.job _ committed.planned in
    let same : handed entry.worker committed.job
    ≡ event.Call entry.worker entry.ctx.credential entry.ctx.moment entry.call =
    λ i. event.Call entry.worker (sym committed.ctx i).credential (sym committed.ctx i).moment
    (sym committed.call i) in
    uncalled found.0 (found.1 ∙ ap (λ (e : Event). Some e) same)
