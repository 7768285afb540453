use Rattle.std.proofs.Common.{◌≡◌, ◌+◌, length, drop}
use Rattle.sim_words.specs.Texts.{leading}
use Rattle.sim_words.proofs.parts.leading_length.Given as goal

abbrev pub invariant-bytes : goal.invariant-bytes
invariant-bytes l = length (leading l.byte l.text) ≡ l.index + length (leading l.byte (drop l.index l.text))
