use Rattle.nfs_spec.proofs.ProceduresLemmas.Written.{text_is_read}
use Rattle.nfs_spec.proofs.procedures.files.a_read_gives_what_was_written.Goals as goal

pub returns : goal.returns
returns c tree middle last ctx later file offset count stability text reply given file_attributes tells write read =
    text_is_read tree middle last ctx later file offset count stability text reply given file_attributes tells write read
