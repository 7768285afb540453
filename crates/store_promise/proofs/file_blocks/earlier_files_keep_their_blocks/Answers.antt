use Rattle.store_promise.proofs.OpenCommits.{blocks_preserved}
use Rattle.store_promise.proofs.OpenInstalls.{earlier_then}
use Rattle.store_promise.proofs.file_blocks.earlier_files_keep_their_blocks.Goals as goal

pub returns-clause-commit : goal.returns-clause-commit
returns-clause-commit c =
    λ base d old new logging installing boot first last entries tx place count plan since took.
    blocks_preserved base d old new logging installing boot first last entries tx place plan since took count

pub returns-clause-installed : goal.returns-clause-installed
returns-clause-installed c =
    λ base d old new logging installing ok boot first last entries count since back records.
    earlier_then base d old new logging installing ok boot first last entries since back records count
