use Rattle.std.proofs.Common.{refl}
use Rattle.nfs_codec.specs.Procedures.{called}
use Rattle.nfs_codec.proofs.CallLaws.{read_again}
use Rattle.nfs_codec.proofs.argument_laws.spelling_gives_the_call.Goals as goal

pub returns : goal.returns
returns c = λ x fits. read_again (called x) _ x refl fits refl
