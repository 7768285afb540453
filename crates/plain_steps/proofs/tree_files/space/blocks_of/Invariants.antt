use Rattle.std.proofs.Common.{◌≡◌, ◌≤◌, ◌-◌, ◌*◌, ◌^◌, length, drop}
use Rattle.plain_steps.specs.Numbered.{blocks_of}
use Rattle.plain_steps.proofs.tree_files.space.blocks_of.Given as goal

abbrev pub invariant-files : goal.invariant-files
invariant-files l = record {
  within : l.index ≤ length l.files;
  counted : l.blocks ≡ blocks_of (drop l.index l.files);
  small : l.blocks ≤ (length l.files - l.index) * 2 ^ 32;
}

abbrev pub decreases-files : goal.decreases-files
decreases-files l = l.index
