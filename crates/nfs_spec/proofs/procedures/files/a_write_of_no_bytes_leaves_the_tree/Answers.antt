use Rattle.std.proofs.Common.{[]}
use Rattle.nfs_spec.proofs.ProceduresLemmas.Written.{nothing_written, wrote}
use Rattle.nfs_spec.proofs.procedures.files.a_write_of_no_bytes_leaves_the_tree.Goals as goal

pub returns : goal.returns
returns c tree next ctx file offset count stability reply file_attributes write =
    nothing_written tree next ctx file offset
    (wrote tree next ctx file offset count stability [] reply file_attributes write)
