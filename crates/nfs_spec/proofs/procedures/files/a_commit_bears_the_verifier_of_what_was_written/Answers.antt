use Rattle.std.proofs.Common.{sym, ap, ◌∙◌}
use Rattle.nfs_types.specs.Verifier.{boot_verifier}
use Rattle.nfs_spec.proofs.ProceduresLemmas.Verifiers.{of_commit, of_write}
use Rattle.nfs_spec.proofs.procedures.files.a_commit_bears_the_verifier_of_what_was_written.Goals as goal

pub returns : goal.returns
returns c tree next other last ctx later file another offset count stability text reply verifier file_attributes tells same
    wrote committed =
    of_commit other last later another verifier tells committed
    ∙ ap boot_verifier (sym same)
    ∙ sym (of_write tree next ctx file offset count stability text reply file_attributes wrote)
