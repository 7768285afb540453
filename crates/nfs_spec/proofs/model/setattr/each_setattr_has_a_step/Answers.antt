use Rattle.nfs_spec.specs.Model.Find.{find_file}
use Rattle.nfs_spec.proofs.ModelLemmas.Answered.{set_answer}
use Rattle.nfs_spec.proofs.model.setattr.each_setattr_has_a_step.Goals as goal

pub returns : goal.returns
returns c tree ctx handle wanted guard =
    let set = set_answer tree ctx wanted guard (find_file tree handle) in
    (set.outcome, set.file_attributes, set.next, set.is)
