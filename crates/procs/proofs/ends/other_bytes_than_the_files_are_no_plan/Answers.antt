use Rattle.procs.proofs.NoPlan.{no_other_bytes}
use Rattle.procs.proofs.ends.other_bytes_than_the_files_are_no_plan.Goals as goal

pub returns : goal.returns
returns c = no_other_bytes
