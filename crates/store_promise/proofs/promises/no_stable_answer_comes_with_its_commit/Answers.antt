use Rattle.store_promise.proofs.StableAnswers.{comes_later}
use Rattle.store_promise.proofs.promises.no_stable_answer_comes_with_its_commit.Goals as goal

pub returns : goal.returns
returns c = λ before later tree first workers index place events t a blocks given stable made is_preserved.
    comes_later events t a place blocks is_preserved.replies.history (is_preserved.replies.answers.each index a given) stable made
