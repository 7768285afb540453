use Rattle.disk.proofs.BlockLemmas.{zeros_block}
use Rattle.disk_file.proofs.file.TracedFile.sync.Goals as goal

pub trace-requires : goal.trace-requires
trace-requires g c = zeros_block
