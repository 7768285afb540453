-- What bytes spell can be spelled.
use Rattle.pool_requests.proofs.JobsLemmas.Judgements.{fits}
use Rattle.pool_requests.proofs.jobs.job.Job.take_up.Goals as goal

pub returns-clause-fits : goal.returns-clause-fits
returns-clause-fits c = fits c.args.self.message.value c.args.self.xid c.args.self.credential c.args.self.call
    c.args.self.of_bytes c.args.self.spelled
