use Rattle.nfs_spec.proofs.ProceduresLemmas.Sums.{need_of_one}
use Rattle.nfs_spec.proofs.procedures.files.one_file_needs_what_it_adds.Goals as goal

pub returns : goal.returns
returns c = need_of_one
