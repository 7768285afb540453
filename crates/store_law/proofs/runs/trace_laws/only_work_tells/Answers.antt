use Rattle.store_law.specs.Runs.Tracing.{state_now}
use Rattle.store_law.proofs.RunsLemmas.StateUnmoved.{quiet}
use Rattle.store_law.proofs.runs.trace_laws.only_work_tells.Goals as goal

pub returns : goal.returns
returns c = λ o workers events t now made other taken.
    let is = quiet o workers (state_now events t) now made other taken in
    record { entry = is.0; answer = is.1 }
