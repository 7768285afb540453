use Rattle.std.proofs.Common.{◌≡◌, ◌∷◌, length}
use Rattle.sim_words.specs.Lines.{behind, numbers_of}
use Rattle.sim_words.proofs.line.digits.Given as goal

abbrev pub invariant-words : goal.invariant-words
invariant-words l = numbers_of (l.fn.first ∷ l.initial.words) ≡ behind l.digits.items (numbers_of l.words)

abbrev pub decreases-words : goal.decreases-words
decreases-words l = length l.words
