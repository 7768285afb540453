use Rattle.xdr.proofs.Lawful.{whole_refuses, whole_refused}
use Rattle.nfs_codec.specs.Arguments.{calls_of}
use Rattle.nfs_codec.proofs.CallLaws.{calls_are}
use Rattle.nfs_codec.proofs.argument_laws.arguments_are_refused_so.Goals as goal

pub returns : goal.returns
returns c = λ p bytes e fits. (
  λ h. whole_refuses (calls_of p) (calls_are p) bytes e fits h,
  λ r. whole_refused (calls_of p) (calls_are p) bytes e r,
)
