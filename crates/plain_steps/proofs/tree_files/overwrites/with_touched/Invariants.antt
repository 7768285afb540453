use Rattle.std.proofs.Common.{◌≡◌, ◌-◌}
use Rattle.std.specs.List.{range_with_len}
use Rattle.nfs_spec.specs.Procedures.Write.{mapped_with}
use Rattle.plain_steps.proofs.tree_files.overwrites.with_touched.Given as goal

abbrev pub invariant-indexes : goal.invariant-indexes
invariant-indexes l = l.all ≡ mapped_with (range_with_len l.first (l.index - l.first)) l.mapped
