use Rattle.store_promise.proofs.promises.no_procedure_is_answered_twice.Goals as goal

pub returns : goal.returns
returns c = λ before later tree first workers one other place events t a b is so apart at there is_preserved.
    apart (is_preserved.replies.answers.placed_once one other place a b is so at there)
