use Rattle.txn.proofs.OwnChange.{is_own}
use Rattle.txn.proofs.transaction_laws.a_planned_change_is_its_own.Goals as goal

pub returns : goal.returns
returns c = λ core tx plan well_formed out blocks inodes read written loaded.
    is_own core tx well_formed out plan blocks inodes read written loaded
