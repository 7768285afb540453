use Rattle.xdr.proofs.Lawful.{whole_refuses, whole_refused}
use Rattle.nfs_results.specs.Results.{replies_to}
use Rattle.nfs_results.proofs.ReplyLaws.{replies_are}
use Rattle.nfs_results.proofs.result_laws.results_are_refused_so.Goals as goal

pub returns : goal.returns
returns c = λ p bytes e fits. (
  λ h. whole_refuses (replies_to p) (replies_are p) bytes e fits h,
  λ r. whole_refused (replies_to p) (replies_are p) bytes e r,
)
