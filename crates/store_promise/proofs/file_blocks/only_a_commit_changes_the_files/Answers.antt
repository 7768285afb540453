use Rattle.std.proofs.Common.{refl}
use Rattle.txn_law.specs.Core.{with_inst_call, with_log_call}
use Rattle.circ.specs.Log.Logger.{with_log_back}
use Rattle.store_promise.proofs.OpenCommits.{blocks_now}
use Rattle.store_promise.proofs.OpenInstalls.{blocks_then}
use Rattle.store_promise.proofs.OpenSteps.{blocks_same, inst_out_same, log_back_same, log_out_same}
use Rattle.store_promise.proofs.OpenSteps.{same_changes}
use Rattle.store_promise.proofs.file_blocks.only_a_commit_changes_the_files.Goals as goal

pub returns-clause-commit : goal.returns-clause-commit
returns-clause-commit c = blocks_now

pub returns-clause-log_unchanged : goal.returns-clause-log_unchanged
returns-clause-log_unchanged c = λ base old new log_unchanged. blocks_same base old new
    (record {
      log = same_changes old.log new.log log_unchanged.log;
      inodes = log_unchanged.inodes;
      records = log_unchanged.records;
      boot = log_unchanged.boot;
    })

pub returns-clause-logger : goal.returns-clause-logger
returns-clause-logger c = λ base core ok. (
  blocks_same base core (with_log_call core)
      (record { log = log_out_same core.log; inodes = refl; records = refl; boot = refl }),
  blocks_same base core (record core { log = with_log_back core.log ok })
      (record { log = log_back_same core.log ok; inodes = refl; records = refl; boot = refl }),
)

pub returns-clause-installer : goal.returns-clause-installer
returns-clause-installer c = λ base core. blocks_same base core (with_inst_call core)
    (record { log = inst_out_same core.log; inodes = refl; records = refl; boot = refl })

pub returns-clause-installed : goal.returns-clause-installed
returns-clause-installed c = λ base d old new logging installing ok boot first last entries since back records.
    blocks_then base d old new logging installing ok boot first last entries since back records
