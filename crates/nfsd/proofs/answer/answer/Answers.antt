use Rattle.nfsd.proofs.Obeyed.{refused, refuses}
use Rattle.nfsd.proofs.answer.answer.Goals as goal

pub returns-clause-answers : goal.returns-clause-answers
returns-clause-answers g c = record {
  outcome = c.obey-disk.result.1;
  obeys = c.obey-disk.ensures;
  ends = c.conclude.ensures.status;
  tells = c.conclude.ensures.reports;
}

pub returns-clause-refused : goal.returns-clause-refused
returns-clause-refused g c = refused (returns-clause-answers g c)

pub returns-clause-refuses : goal.returns-clause-refuses
returns-clause-refuses g c = refuses (returns-clause-answers g c)
