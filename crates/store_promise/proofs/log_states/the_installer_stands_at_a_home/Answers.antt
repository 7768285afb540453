use Rattle.std.proofs.Common.{refl}
use Rattle.store_promise.proofs.LogStateIs.{stands_after_commit, stands_given_back, stands_logging, stands_taken}
use Rattle.store_promise.proofs.log_states.the_installer_stands_at_a_home.Goals as goal

pub returns-clause-first : goal.returns-clause-first
returns-clause-first c = λ blocks start logged. refl

pub returns-clause-commit : goal.returns-clause-commit
returns-clause-commit c = stands_after_commit

pub returns-clause-logging : goal.returns-clause-logging
returns-clause-logging c = λ log ok stands. (stands, stands_logging log ok stands)

pub returns-clause-taken : goal.returns-clause-taken
returns-clause-taken c = stands_taken

pub returns-clause-given_back : goal.returns-clause-given_back
returns-clause-given_back c = stands_given_back
