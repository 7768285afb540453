use Rattle.std.proofs.Common.{[], refl, ap, ◌++◌}
use Rattle.xdr.proofs.Lawful.{alike}
use Rattle.nfs_codec.specs.Arguments.{calls_of}
use Rattle.nfs_codec.specs.Procedures.{called}
use Rattle.nfs_codec.proofs.CallLaws.{calls_are}
use Rattle.nfs_codec.proofs.argument_laws.arguments_share_no_spelling.Goals as goal

pub returns : goal.returns
returns c = λ x y p q same e.
    (alike (calls_of (called y)) (calls_are (called y)) x y [] [] (same, p) (refl, q)
    (ap (λ (s : _). s ++ []) e)).0
