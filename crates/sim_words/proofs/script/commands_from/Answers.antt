use Rattle.std.proofs.Common.{rules, ◌+◌, ◌∙◌, ap, sym, List, ℕ, ◌∷◌, [], Result, length, arith}
use Rattle.sim_words.specs.declared.command.Command.{Command}
use Rattle.sim_words.specs.Script.{behind, commands_from}
use Rattle.sim_words.proofs.OneByOne.{commands_behind, goes}
use Rattle.sim_words.proofs.script.commands_from.Goals as goal

pub lines-preserved : goal.lines-preserved
lines-preserved c = record {
  read = c.lines.invariant.read
      ∙ ap (λ (more : Result (List Command) ℕ). behind c.lines.commands.items more)
      (ap (λ (lines : List (List ℕ)). commands_from c.lines.script_cursor (c.lines.number + 1) lines) (search rules)
      ∙ goes c.lines.script_cursor c.in-Ok.next (c.lines.number + 1) c.in-Some.line.now c.next.new.self c.in-Ok.command (search rules) (search rules))
      ∙ commands_behind c.lines.commands.items (c.in-Ok.command ∷ [])
      (commands_from c.in-Ok.next (c.lines.number + 1 + 1) c.next.new.self)
      ∙ ap (λ (items : List Command).
      behind items (commands_from c.in-Ok.next (c.lines.number + 1 + 1) c.next.new.self)) (search rules);
  left = (search rules);
}
