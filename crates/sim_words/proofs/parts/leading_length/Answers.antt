use Rattle.sim_words.proofs.Cut.{all_counted}
use Rattle.sim_words.proofs.parts.leading_length.Goals as goal

pub returns-clause-is : goal.returns-clause-is
returns-clause-is c =
    all_counted c.args.byte c.bytes.index c.args.text.now c.bytes-test.false c.bytes.auto.index-end c.bytes.invariant
