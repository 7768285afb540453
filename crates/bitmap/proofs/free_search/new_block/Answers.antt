use Rattle.std.proofs.Common.{◌≡◌, ◌-◌, false, arith, subst, rules, Some, None}
use Rattle.base.specs.declared.TheConstants.{FIRST_HOME_BLOCK}
use Rattle.layout.specs.Geometry.{bitmap_blocks}
use Rattle.layout.specs.Places.{is_data}
use Rattle.bitmap.specs.Bits.{IsClearOf}
use Rattle.bitmap.proofs.Asked.{may_suspend}
use Rattle.bitmap.proofs.NewBlocks.{new_block, none_else}
use Rattle.bitmap.proofs.free_search.new_block.Goals as goal

pub returns-then-is_data-clause-ok : goal.returns-then-is_data-clause-ok
returns-then-is_data-clause-ok c = λ image base tree taken saw has.
    let g = c.args.snap.now.geometry in
    let first = c.inode_bitmap-first.ensures in
    let count : c.inode_bitmap-first.result.0 - FIRST_HOME_BLOCK ≡ bitmap_blocks g.blocks = omega (arith, first) in
    new_block g base tree taken image has (Some c.in-Ok-Some.number)
    (subst (λ n. IsClearOf image FIRST_HOME_BLOCK n (Some c.in-Ok-Some.number)) count
    (rw c.in-Ok-Some.field-0-is at (c.in-Ok-Some.ensures.ok image saw)))

pub returns-else-is_data-clause-resumable : goal.returns-else-is_data-clause-resumable
returns-else-is_data-clause-resumable c = λ image base tree taken saw has.
    let g = c.args.snap.now.geometry in
    let first = c.inode_bitmap-first.ensures in
    let count : c.inode_bitmap-first.result.0 - FIRST_HOME_BLOCK ≡ bitmap_blocks g.blocks = omega (arith, first) in
    let isnt : is_data g c.in-Ok-Some.number ≡ false = search rules in
    none_else g base tree taken image has c.in-Ok-Some.number
    (subst (λ n. IsClearOf image FIRST_HOME_BLOCK n (Some c.in-Ok-Some.number)) count
    (rw c.in-Ok-Some.field-0-is at (c.in-Ok-Some.ensures.ok image saw))) isnt

pub returns-in-Ok-None-clause-ok : goal.returns-in-Ok-None-clause-ok
returns-in-Ok-None-clause-ok c = λ image base tree taken saw has.
    let g = c.args.snap.now.geometry in
    let first = c.inode_bitmap-first.ensures in
    let count : c.inode_bitmap-first.result.0 - FIRST_HOME_BLOCK ≡ bitmap_blocks g.blocks = omega (arith, first) in
    new_block g base tree taken image has None
    (subst (λ n. IsClearOf image FIRST_HOME_BLOCK n None) count
    (rw c.in-Ok-None.field-0-is at (c.in-Ok-None.ensures.ok image saw)))

pub returns-in-Err-clause-err : goal.returns-in-Err-clause-err
returns-in-Err-clause-err c = may_suspend c.args.snap.now c.in-Err.suspend c.in-Err.ensures.err c.in-Err.ensures.asks
