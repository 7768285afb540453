use Rattle.txn.proofs.LoneTransaction.{claimed_again, never_busy, never_loading}
use Rattle.txn.proofs.transaction_laws.a_lone_transaction_is_not_deferred.Goals as goal

pub returns-clause-busy : goal.returns-clause-busy
returns-clause-busy c = λ core tx addr mode well_formed only_one_out. never_busy core tx well_formed only_one_out addr mode

pub returns-clause-loading : goal.returns-clause-loading
returns-clause-loading c = never_loading

pub returns-clause-claimed : goal.returns-clause-claimed
returns-clause-claimed c = λ core tx block addr well_formed only_one_out. claimed_again core tx well_formed only_one_out block addr
