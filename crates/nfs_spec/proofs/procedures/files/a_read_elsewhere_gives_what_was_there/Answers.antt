use Rattle.nfs_spec.proofs.ProceduresLemmas.Written.{rest_is_read}
use Rattle.nfs_spec.proofs.procedures.files.a_read_elsewhere_gives_what_was_there.Goals as goal

pub returns : goal.returns
returns c tree middle last ctx later file offset count at asked index stability text reply given
    file_attributes tells found
    found_is write read inside unaffected =
    rest_is_read tree middle last ctx later file offset count at asked index stability text reply
    given file_attributes tells
    found found_is write read inside unaffected
