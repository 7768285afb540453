use Rattle.pool_requests.proofs.AnswersLemmas.OneProcedure.{may_get}
use Rattle.pool_requests.proofs.answers.answer_laws.an_answer_is_one_that_its_call_may_get.Goals as goal

pub returns : goal.returns
returns c = may_get
