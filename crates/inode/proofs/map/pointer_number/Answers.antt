use Rattle.std.proofs.Common.{refl, rules, ◌∙◌}
use Rattle.layout.specs.Parts.{content_in}
use Rattle.inode.specs.Asked.IsPointerNumber.{named, none}
use Rattle.inode.proofs.HeldThere.{no_data}
use Rattle.inode.proofs.Placed.{none_indirect, some_indirect}
use Rattle.inode.proofs.map.pointer_number.Goals as goal

pub returns-then-indirect-eq0-clause-ok : goal.returns-then-indirect-eq0-clause-ok
returns-then-indirect-eq0-clause-ok c = λ blocks tree over.
    none_indirect (content_in c.args.snap.now.geometry blocks) c.args.indirect c.args.index
    (let h = c.if-indirect-eq0.true in search rules)

pub returns-then-not-is_data-clause-resumable : goal.returns-then-not-is_data-clause-resumable
returns-then-not-is_data-clause-resumable c = λ placed.
    no_data c.args.snap.now.geometry c.args.indirect (let h = c.if-indirect-eq0.false in search rules)
    (search rules) placed

pub returns-clause-ok : goal.returns-clause-ok
returns-clause-ok c = λ blocks tree over.
    c.at.ensures
    ∙ some_indirect (content_in c.args.snap.now.geometry blocks) c.args.indirect c.args.index c.in_ok-bytes.bytes.now
    (let h = c.if-indirect-eq0.false in search rules) (c.in_ok-bytes.ensures.ok blocks tree over)

pub returns-then-indirect-eq0-clause-read : goal.returns-then-indirect-eq0-clause-read
returns-then-indirect-eq0-clause-read c = none c.if-indirect-eq0.true refl

pub returns-clause-read : goal.returns-clause-read
returns-clause-read c = named c.in_ok-bytes.bytes.now c.in_ok-bytes.ensures.read c.at.ensures
