use Rattle.sim_words.proofs.Cut.{all_leading, behind_cut}
use Rattle.sim_words.proofs.parts.cut.Goals as goal

pub returns-else-length-text-clause-leading : goal.returns-else-length-text-clause-leading
returns-else-length-text-clause-leading c =
    all_leading c.args.byte c.leading_length-length.result c.args.text.now c.leading_length-length.ensures.is
    c.if-length-text.false

pub returns-then-length-text-clause-behind : goal.returns-then-length-text-clause-behind
returns-then-length-text-clause-behind c =
    behind_cut c.args.byte c.leading_length-length.result c.args.text.now c.leading_length-length.ensures.is
    c.if-length-text.true
