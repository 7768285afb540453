use Rattle.std.proofs.Common.{sym, ap, ◌∙◌}
use Rattle.nfs_spec.specs.Model.Tree.{Geometry}
use Rattle.procs_blocks.proofs.block_files.BlockFilesFiles.data_blocks.Goals as goal

pub returns : goal.returns
returns c = λ blocks tree over.
    c.data_blocks.ensures ∙ sym (ap (λ (one : Geometry). one.data_blocks) over.holds.parts.geometry)
