use Rattle.std.proofs.Common.{◌≡◌, ◌-◌, sym, ◌∙◌, length, arith}
use Rattle.std.proofs.lemmas.Result.{IfOk-weaker}
use Rattle.base.specs.declared.TheConstants.{FILE_INDEXES}
use Rattle.layout.specs.Decode.{numbers_of}
use Rattle.layout.specs.Parts.{content_in}
use Rattle.layout.proofs.AllNumbers.{all-length}
use Rattle.inode.proofs.Pieces.{direct}
use Rattle.inode_sizes.proofs.CutNumbers.{before, past}
use Rattle.inode_sizes.proofs.cuts.last_of.Goals as goal

pub returns-then-count-eq0-clause-ok : goal.returns-then-count-eq0-clause-ok
returns-then-count-eq0-clause-ok c = λ blocks tree file has.
    let numbers = numbers_of (content_in c.args.snap.now.geometry blocks) c.args.inode.now in
    let none = c.if-count-eq0.true in
    sym (past numbers c.args.count (omega (arith, none)) (c.args.count - 1) (omega (arith, none)))

pub returns-clause-ok : goal.returns-clause-ok
returns-clause-ok c =
    IfOk-weaker c.block_number.result _ _ (λ number leads blocks tree file has.
    let inode = c.args.inode.now in
    let content = content_in c.args.snap.now.geometry blocks in
    let numbers = numbers_of content inode in
    let long : length numbers ≡ FILE_INDEXES =
    all-length content inode (direct c.args.snap.now blocks tree file inode has) in
    let few = c.requires in
    let some = c.if-count-eq0.false in
    leads blocks tree file has
    ∙ sym (before numbers c.args.count (omega (arith, few, long)) (c.args.count - 1) (omega (arith, some))))
    c.block_number.ensures.ok
