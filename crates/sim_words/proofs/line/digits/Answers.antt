use Rattle.std.proofs.Common.{rules, ◌∙◌, ap, sym, List, ℕ, ◌∷◌, [], Option}
use Rattle.sim_words.specs.Lines.{behind, numbers_of}
use Rattle.sim_words.proofs.OneByOne.{numbers_behind, numbers_go}
use Rattle.sim_words.proofs.line.digits.Goals as goal

pub words-preserved : goal.words-preserved
words-preserved c =
    c.words.invariant
    ∙ ap (λ (more : Option (List ℕ)). behind c.words.digits.items more)
    (ap numbers_of (search rules) ∙ numbers_go c.in-Some.word.now c.next.new.self c.in_ok-number_of-2.field-0 (search rules))
    ∙ numbers_behind c.words.digits.items (c.in_ok-number_of-2.field-0 ∷ []) (numbers_of c.next.new.self)
    ∙ ap (λ (items : List ℕ). behind items (numbers_of c.next.new.self)) (search rules)
