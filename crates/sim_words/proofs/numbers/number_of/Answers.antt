use Rattle.std.proofs.Common.{ℕ, List, None, ◌∙◌, ap, sym, if◌then◌else◌, Bool}
use Rattle.std.proofs.Math.ListN.{drop_of_length-le}
use Rattle.sim_words.specs.Numbers.{number_after}
use Rattle.sim_words.proofs.Digits.{digits_end}
use Rattle.sim_words.proofs.numbers.number_of.Goals as goal

pub returns : goal.returns
returns c =
    ap (λ (t : Bool). if t then None else number_after 0 c.args.word.now)
    (sym c.is_empty.ensures ∙ c.if-is_empty.false)
    ∙ c.digits.invariant.0
    ∙ ap (λ (rest : List ℕ). number_after c.digits.number rest) (drop_of_length-le c.args.word.now c.digits-test.false)
    ∙ digits_end c.digits.number c.digits.invariant.1
