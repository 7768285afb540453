use Rattle.std.proofs.Common.{◌≡◌, sym, ap, ◌∙◌, true, false}
use Rattle.layout.specs.InodeForm.{is_data_block_or_none}
use Rattle.inode.proofs.Placed.{placed_at}
use Rattle.inode.proofs.map.block_number.Goals as goal

pub returns-else-is_data_or_none-clause-resumable : goal.returns-else-is_data_or_none-clause-resumable
returns-else-is_data_or_none-clause-resumable c = λ blocks tree file has.
    let test = is_data_block_or_none c.args.snap.now.geometry in
    let isnt : test c.in-Ok.number ≡ false = sym c.is_data_or_none.ensures ∙ c.if-is_data_or_none.false in
    let clash : true ≡ false =
    sym (ap test (c.in-Ok.ensures.ok blocks tree file has)
    ∙ placed_at c.args.snap.now blocks tree file c.args.inode.now has c.args.index) ∙ isnt in
    cc
