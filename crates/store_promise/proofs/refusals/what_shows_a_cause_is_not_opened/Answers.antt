use Rattle.store_promise.proofs.refusals.what_shows_a_cause_is_not_opened.Goals as goal

pub returns : goal.returns
returns c = λ before later cause certain shown answered. answered.2 tt certain cause shown
