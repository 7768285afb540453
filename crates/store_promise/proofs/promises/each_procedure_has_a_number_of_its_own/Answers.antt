use Rattle.store_promise.proofs.promises.each_procedure_has_a_number_of_its_own.Goals as goal

pub returns : goal.returns
returns c = λ before later tree first workers one other events t a b is so apart same is_preserved.
    apart (is_preserved.replies.history.numbers one other a b is so same)
