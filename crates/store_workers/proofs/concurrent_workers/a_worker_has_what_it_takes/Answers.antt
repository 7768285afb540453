use Rattle.store_workers.proofs.TracesAll.{traces_still}
use Rattle.store_workers.proofs.PlansStay.{plans_stay}
use Rattle.store_workers.proofs.concurrent_workers.a_worker_has_what_it_takes.Goals as goal

pub returns-clause-plans : goal.returns-clause-plans
returns-clause-plans c = λ old new made preserves beyond left goes plans.
    plans_stay old new preserves beyond left made goes plans

pub returns-clause-traces : goal.returns-clause-traces
returns-clause-traces c = λ old new made beyond traces tx goes.
    traces_still old new (λ none. beyond) traces made tx goes
