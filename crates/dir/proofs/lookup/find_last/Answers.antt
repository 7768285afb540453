use Rattle.std.proofs.Common.{◌≡◌, ◌+◌, ◌-◌, ◌*◌, ℕ, subst, arith}
use Rattle.std.proofs.lemmas.Result.{IfOk-weaker}
use Rattle.base.specs.declared.TheConstants.{SLOTS_PER_BLOCK}
use Rattle.layout.specs.Parts.{content_in}
use Rattle.dir.specs.Slots.{IsFound, slot_at}
use Rattle.dir.proofs.lookup.find_last.Goals as goal

pub returns-clause-ok : goal.returns-clause-ok
returns-clause-ok c =
    let some = c.if-index-eq0.false in
    let end : SLOTS_PER_BLOCK * (c.args.index - 1) + SLOTS_PER_BLOCK ≡ SLOTS_PER_BLOCK * c.args.index = omega (arith, some) in
    IfOk-weaker c.find_at.result _ _ (λ found is blocks tree file directory less.
    subst (λ (past : ℕ). IsFound (slot_at c.args.snap.now.geometry.inodes
    (content_in c.args.snap.now.geometry blocks) c.args.inode.now) c.args.name.now
    (SLOTS_PER_BLOCK * (c.args.index - 1)) past found) end
    (is blocks tree file directory (omega (arith, less)))) c.find_at.ensures.ok
