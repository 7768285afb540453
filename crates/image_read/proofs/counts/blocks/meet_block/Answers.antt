use Rattle.std.proofs.Common.{rules}
use Rattle.image_read.proofs.CountsLemmas.More.{is_below, no_block, one_block}
use Rattle.image_read.proofs.counts.blocks.meet_block.Goals as goal

pub returns-then-number-eq0-clause-met : goal.returns-then-number-eq0-clause-met
returns-then-number-eq0-clause-met c = λ met owned.
    no_block met c.args.number c.args.owners.now (let h = c.if-number-eq0.true in search rules) owned

pub meet-requires : goal.meet-requires
meet-requires c = is_below _ c.args.number c.requires (let h = c.if-number-eq0.false in search rules)

pub returns-clause-met : goal.returns-clause-met
returns-clause-met c = λ met owned.
    one_block met c.args.number c.meet.new.self (let h = c.if-number-eq0.false in search rules)
    (c.meet.ensures.met met owned)
