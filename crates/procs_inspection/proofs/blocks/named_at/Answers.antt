use Rattle.std.proofs.Common.{◌-◌, ◌∙◌, sym, ap, get_or, arith}
use Rattle.base.specs.declared.TheConstants.{DIRECT_INDEXES, INDIRECT_INDEXES}
use Rattle.layout.specs.Fields.{numbers_at}
use Rattle.procs_inspection.specs.Refused.{indirect_part}
use Rattle.procs_inspection.proofs.Files.{indirect_read, named_indirect}
use Rattle.procs_inspection.proofs.blocks.named_at.Goals as goal

pub returns-in-Some-clause-some : goal.returns-in-Some-clause-some
returns-in-Some-clause-some c = λ blocks are.
    indirect_part (let past = c.if-index-lt-DIRECT_INDEXES.false in omega (arith, past)) c.requires (c.in-Some.ensures.read blocks are)
    (c.at.ensures ∙ ap (λ l. get_or (numbers_at INDIRECT_INDEXES 0 l) (c.args.index - DIRECT_INDEXES) 0)
    (c.in-Some.ensures.is blocks are.saw (c.in-Some.ensures.read blocks are)))

pub returns-in-Some-clause-one : goal.returns-in-Some-clause-one
returns-in-Some-clause-one c = λ blocks other saw named.
    let past = c.if-index-lt-DIRECT_INDEXES.false in
    named_indirect c.args.snap.now blocks c.args.inode.now c.args.index other (omega (arith, past)) named
    ∙ sym (c.at.ensures ∙ ap (λ l. get_or (numbers_at INDIRECT_INDEXES 0 l) (c.args.index - DIRECT_INDEXES) 0)
    (c.in-Some.ensures.is blocks saw (indirect_read c.args.snap.now blocks c.args.inode.now c.args.index other (omega (arith, past)) named)))

pub returns-in-None-clause-none : goal.returns-in-None-clause-none
returns-in-None-clause-none c = λ blocks number named.
    let past = c.if-index-lt-DIRECT_INDEXES.false in
    c.in-None.ensures.none blocks
    (indirect_read c.args.snap.now blocks c.args.inode.now c.args.index number (omega (arith, past)) named)
