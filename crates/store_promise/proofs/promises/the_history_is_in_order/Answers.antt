use Rattle.std.proofs.Common.{arith}
use Rattle.store_promise.proofs.promises.the_history_is_in_order.Goals as goal

pub returns : goal.returns
returns c = λ before later tree first workers one other events t a b is so less late is_preserved.
    let before_it = is_preserved.replies.history.ordered one other a b is so less in omega (arith, before_it, late)
