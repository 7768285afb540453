use Rattle.std.proofs.Common.{subst, sym}
use Rattle.circ.specs.Log.Calls.{AgreesWithPending}
use Rattle.circ.specs.Log.Log.{Log}
use Rattle.txn_law.specs.HomeRead.{IsReadable}
use Rattle.store_promise.proofs.OpenSteps.{same_changes, still_open}
use Rattle.store_promise.proofs.open_steps.a_transaction_leaves_the_store_open.Goals as goal

pub returns : goal.returns
returns c = λ base d old new logging installing boot first last entries since log_unchanged sound.
    still_open base old new
    (record {
      log = same_changes old.log new.log log_unchanged.log;
      inodes = log_unchanged.inodes;
      records = log_unchanged.records;
      boot = log_unchanged.boot;
    })
    d d logging installing logging installing boot first last entries since sound
    (subst (λ (log : Log). AgreesWithPending d base log logging installing) (sym log_unchanged.log) since.over.agrees)
    (subst (λ (log : Log). IsReadable d log installing) (sym log_unchanged.log) since.over.readable)
