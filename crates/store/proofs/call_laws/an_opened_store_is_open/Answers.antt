use Rattle.std.proofs.Common.{subst, sym, []}
use Rattle.store_promise.specs.OpenSince.{file_blocks}
use Rattle.store_promise.specs.Running.{IsRunningOver, at_rest}
use Rattle.store_promise.specs.Schedule.{Setting}
use Rattle.store.specs.Runs.Going.{begins}
use Rattle.store.proofs.CallSteps.{open_of}
use Rattle.store.proofs.call_laws.an_opened_store_is_open.Goals as goal

pub returns : goal.returns
returns c = λ before store tree first opens.
    let begun = c.a_run_begins.ensures (begins before store.device tree first 1 []) opens.3 store.core
    opens.1 opens.2 opens.4 in
    let setting : Setting = record {
      geometry = begun.0;
      position = opens.1;
      blocks = λ place. file_blocks opens.3 store.core;
    } in
    record {
      base = opens.3;
      opened = open_of setting opens.3 store [] tree [] tree
          (subst (λ boot. IsRunningOver setting opens.3 (at_rest store.device store.core) [] boot tree [] tree)
          (sym opens.0) begun.1.running);
    }
