use Rattle.nfs_spec.specs.Model.Find.{find_file}
use Rattle.nfs_spec.proofs.ModelLemmas.Determined.{set_found}
use Rattle.nfs_spec.proofs.model.setattr.setattr_is_determined.Goals as goal

pub returns : goal.returns
returns c tree next other ctx handle wanted guard outcome another file_attributes tells one two =
    let same = set_found tree ctx wanted guard (find_file tree handle) outcome another file_attributes tells next other
    one two in
    (same.outcome_is, same.attributes_same, same.next_is)
