use Rattle.std.proofs.Common.{[], refl, ap, ◌++◌}
use Rattle.xdr.proofs.Lawful.{alike}
use Rattle.nfs_results.specs.Results.{replies_to}
use Rattle.nfs_codec.specs.Procedures.{replied_to}
use Rattle.nfs_results.proofs.ReplyLaws.{replies_are}
use Rattle.nfs_results.proofs.result_laws.results_share_no_spelling.Goals as goal

pub returns : goal.returns
returns c = λ x y p q same e.
    (alike (replies_to (replied_to y)) (replies_are (replied_to y)) x y [] [] (same, p) (refl, q)
    (ap (λ (s : _). s ++ []) e)).0
