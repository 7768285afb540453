use Rattle.std.proofs.Common.{◌≡◌, ◌≤◌, ◌-◌, length, drop}
use Rattle.std.specs.FinMap as map
use Rattle.plain_steps.specs.Numbered.{files_of}
use Rattle.plain_steps.proofs.tree_files.space.count_of.Given as goal

abbrev pub invariant-files : goal.invariant-files
invariant-files l = record {
  within : l.index ≤ length l.files;
  counted : l.count ≡ map.len (files_of (drop l.index l.files));
  small : l.count ≤ length l.files - l.index;
}

abbrev pub decreases-files : goal.decreases-files
decreases-files l = l.index
