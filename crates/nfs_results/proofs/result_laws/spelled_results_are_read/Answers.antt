use Rattle.nfs_results.proofs.ReplyLaws.{taken_whole, read_again}
use Rattle.nfs_results.proofs.result_laws.spelled_results_are_read.Goals as goal

pub returns : goal.returns
returns c = λ p bytes x fits. (λ e. taken_whole p bytes x fits e, λ s. read_again p bytes x s.0 s.1 s.2)
