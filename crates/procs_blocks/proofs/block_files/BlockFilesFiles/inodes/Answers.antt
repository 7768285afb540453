use Rattle.std.proofs.Common.{sym, ap}
use Rattle.nfs_spec.specs.Model.Tree.{Geometry}
use Rattle.procs_blocks.proofs.block_files.BlockFilesFiles.inodes.Goals as goal

pub returns : goal.returns
returns c = λ blocks tree over. sym (ap (λ (one : Geometry). one.inodes) over.holds.parts.geometry)
