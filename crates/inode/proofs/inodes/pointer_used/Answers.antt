use Rattle.std.proofs.Common.{refl, rules}
use Rattle.base.specs.declared.TheConstants.{INDIRECT_INDEXES}
use Rattle.layout.specs.Fields.{numbers_at}
use Rattle.layout.specs.Parts.{content_in}
use Rattle.inode.proofs.HeldThere.{no_data, none_used, not_placed, some_used}
use Rattle.inode.proofs.inodes.pointer_used.Goals as goal

pub returns-then-indirect-eq0-clause-ok : goal.returns-then-indirect-eq0-clause-ok
returns-then-indirect-eq0-clause-ok c = λ blocks tree over.
    none_used (content_in c.args.snap.now.geometry blocks) c.args.indirect
    (let h = c.if-indirect-eq0.true in search rules)

pub returns-then-not-is_data-clause-resumable : goal.returns-then-not-is_data-clause-resumable
returns-then-not-is_data-clause-resumable c = λ blocks tree over placed indirect_part.
    no_data c.args.snap.now.geometry c.args.indirect (let h = c.if-indirect-eq0.false in search rules)
    (search rules) placed

pub returns-in-Ok-clause-ok : goal.returns-in-Ok-clause-ok
returns-in-Ok-clause-ok c = λ blocks tree over.
    some_used (content_in c.args.snap.now.geometry blocks) c.args.indirect c.in-Ok.mapped
    c.in_ok-block.block.now.bytes (numbers_at INDIRECT_INDEXES 0 c.in_ok-block.block.now.bytes)
    (let h = c.if-indirect-eq0.false in search rules) (c.in_ok-block.ensures.ok blocks tree over) refl
    c.in-Ok.ensures.count

pub returns-in-Err-clause-resumable : goal.returns-in-Err-clause-resumable
returns-in-Err-clause-resumable c = λ blocks tree over placed indirect_part.
    not_placed c.args.snap.now.geometry blocks c.args.indirect c.in_ok-block.block.now.bytes
    (let h = c.if-indirect-eq0.false in search rules) (c.in_ok-block.ensures.ok blocks tree over)
    c.in-Err.ensures.refused.1 indirect_part
