use Rattle.std.proofs.Common.{◌≡◌, length}
use Rattle.sim_words.specs.Texts.{words_in}
use Rattle.sim_words.proofs.words.next_word.Given as goal

abbrev pub invariant-parts : goal.invariant-parts
invariant-parts l = words_in l.parts ≡ words_in l.initial.parts

abbrev pub decreases-parts : goal.decreases-parts
decreases-parts l = length l.parts
