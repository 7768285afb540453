use Rattle.nfs_spec.proofs.ProceduresLemmas.Written.{write_takes, wrote}
use Rattle.nfs_spec.proofs.procedures.files.a_write_takes_what_it_needs.Goals as goal

pub returns : goal.returns
returns c tree next ctx file offset count stability text reply file_attributes write =
    write_takes tree next ctx file offset text
    (wrote tree next ctx file offset count stability text reply file_attributes write)
