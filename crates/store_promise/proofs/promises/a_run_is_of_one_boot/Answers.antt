use Rattle.std.proofs.Common.{◌+◌}
use Rattle.store_promise.proofs.OneBoot.{of_one_boot}
use Rattle.store_promise.proofs.promises.a_run_is_of_one_boot.Goals as goal

pub returns : goal.returns
returns c = λ before later tree first workers events t is_preserved.
    of_one_boot events t (first + 1) is_preserved.replies.boot is_preserved.replies.history
