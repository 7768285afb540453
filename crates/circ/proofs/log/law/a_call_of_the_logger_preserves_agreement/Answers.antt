use Rattle.circ.proofs.LogLemmas.Unaffected.{stands_log_out, stands_log_made, log_comes_back}
use Rattle.circ.proofs.log.law.a_call_of_the_logger_preserves_agreement.Goals as goal

pub returns-clause-goes_out : goal.returns-clause-goes_out
returns-clause-goes_out c log io lawful next d base other = stands_log_out d base log io other lawful next

pub returns-clause-is_made : goal.returns-clause-is_made
returns-clause-is_made c old new io answer made base log other lawful =
    stands_log_made old new base log io answer other lawful made

pub returns-clause-comes_back : goal.returns-clause-comes_back
returns-clause-comes_back c = log_comes_back
