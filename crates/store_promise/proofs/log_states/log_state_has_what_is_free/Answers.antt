use Rattle.std.proofs.Common.{ℕ, ◌+◌, ap}
use Rattle.circ.specs.Log.Log.{added_blocks}
use Rattle.store_promise.proofs.LogStateIs.{numbers_are}
use Rattle.circ.proofs.LogLemmas.Tail.{tail_length}
use Rattle.store_promise.proofs.log_states.log_state_has_what_is_free.Goals as goal

pub returns-clause-numbers : goal.returns-clause-numbers
returns-clause-numbers c = numbers_are

pub returns-clause-tail : goal.returns-clause-tail
returns-clause-tail c = λ position log logging installing blocks.
    ap (λ (n : ℕ). n + added_blocks log blocks) (tail_length log)
