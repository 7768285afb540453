use Rattle.txn_law.proofs.Commit.{preserved_by_commit}
use Rattle.txn_law.proofs.a_commit_preserves_the_window.Goals as goal

pub returns : goal.returns
returns c = λ base old new commits held kept commit group lawful grows at brought memory pinned window.
    preserved_by_commit base old new commits held kept commit group lawful grows at brought memory window pinned
