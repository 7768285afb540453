use Rattle.std.proofs.Common.{sym, arith}
use Rattle.plain_steps.proofs.Numbered.{none_counted}
use Rattle.plain_steps.proofs.tree_files.space.count_of.Goals as goal

pub files-init : goal.files-init
files-init c = record {
  within = omega arith;
  counted = sym (none_counted c.args.files.now);
  small = omega arith;
}
