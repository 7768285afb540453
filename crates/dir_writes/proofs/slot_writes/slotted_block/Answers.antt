use Rattle.std.proofs.Common.{rules, ◌≡◌, ◌<◌, ◌/◌, true, false, sym, ◌∙◌, nat_eq, arith}
use Rattle.base.specs.declared.TheConstants.{SLOTS_PER_BLOCK}
use Rattle.layout.specs.Decode.{span_of}
use Rattle.dir.proofs.SlotBlocks.{small, some_there}
use Rattle.dir_writes.proofs.slot_writes.slotted_block.Goals as goal

pub returns-then-index-ge-MOST_SPAN-clause-resumable :
    goal.returns-then-index-ge-MOST_SPAN-clause-resumable
returns-then-index-ge-MOST_SPAN-clause-resumable c = λ blocks tree file is less.
    let few = small c.args.snap.now blocks tree file c.args.inode.now is in
    absurd (omega (arith, c.if-index-ge-MOST_SPAN.true, less, few))

pub returns-then-number-eq0-clause-resumable : goal.returns-then-number-eq0-clause-resumable
returns-then-number-eq0-clause-resumable c = λ blocks tree file is less.
    let none : nat_eq c.in-Ok.number 0 ≡ true = (let h = c.if-number-eq0.true in search rules) in
    let low : c.args.slot / SLOTS_PER_BLOCK < span_of c.args.inode.now = omega (arith, less) in
    let some = some_there c.args.snap.now blocks tree file c.args.inode.now is c.in-Ok.number
    (c.args.slot / SLOTS_PER_BLOCK) low (c.in-Ok.ensures.ok blocks tree file is.has) in
    let clash : true ≡ false = sym none ∙ some in cc
