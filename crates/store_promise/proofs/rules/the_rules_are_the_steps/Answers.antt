use Rattle.store_promise.proofs.RulesAre.{of_rule, of_run_rule, to_rule, to_run_rule}
use Rattle.store_promise.proofs.rules.the_rules_are_the_steps.Goals as goal

pub returns-clause-worker : goal.returns-clause-worker
returns-clause-worker c = λ o run_state worker so_far made.
    (of_rule o run_state worker so_far made, to_rule o run_state worker so_far made)

pub returns-clause-run : goal.returns-clause-run
returns-clause-run c = λ o run_state now made. (of_run_rule o run_state now made, to_run_rule o run_state now made)
