use Rattle.std.proofs.Common.{refl}
use Rattle.nfs_codec.specs.Procedures.{replied_to}
use Rattle.nfs_results.proofs.ReplyLaws.{read_again}
use Rattle.nfs_results.proofs.result_laws.spelling_gives_the_reply.Goals as goal

pub returns : goal.returns
returns c = λ x fits. read_again (replied_to x) _ x refl fits refl
