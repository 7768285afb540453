use Rattle.std.proofs.Common.{◌≡◌, ◌+◌, length}
use Rattle.sim_words.specs.Script.{behind, commands_from}
use Rattle.sim_words.specs.Texts.{lines_of}
use Rattle.sim_words.proofs.script.commands_from.Given as goal

abbrev pub invariant-lines : goal.invariant-lines
invariant-lines l = record {
  read : commands_from l.fn.first 1 (lines_of l.fn.text) ≡ behind l.commands.items (commands_from l.script_cursor (l.number + 1) l.lines);
  left : l.number + length l.lines ≡ length (lines_of l.fn.text);
}

abbrev pub decreases-lines : goal.decreases-lines
decreases-lines l = length l.lines
