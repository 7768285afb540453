use Rattle.nfs_spec.proofs.ProceduresLemmas.Removed.{removed_last}
use Rattle.nfs_spec.proofs.procedures.files.the_last_name_takes_the_file_with_it.Goals as goal

pub returns : goal.returns
returns c tree next ctx directory name file_attributes directory_found file good directory_is_found found one remove =
    removed_last tree next ctx directory name file_attributes directory_found file good directory_is_found found one remove
