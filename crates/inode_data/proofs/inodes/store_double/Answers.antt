use Rattle.std.proofs.Common.{subst, arith}
use Rattle.std.proofs.lemmas.Result.{on_ok_weaker}
use Rattle.layout.specs.Parts.{with_bytes, with_inode}
use Rattle.inode.specs.WriteSets.WriteSetContents.{Shows}
use Rattle.inode_data.proofs.Once.{double_dirty}
use Rattle.inode_data.proofs.inodes.store_double.Goals as goal

pub returns-in-Ok-clause-shows : goal.returns-in-Ok-clause-shows
returns-in-Ok-clause-shows c =
    on_ok_weaker c.store_indirect.result (λ shows image is.
    let outer = with_bytes image c.args.double 0 c.args.inners.items in
    subst (λ g. Shows c.store_indirect.new.write_set (with_inode g
    (with_bytes (with_bytes outer c.args.inner 0 c.args.numbers.items) c.args.block 0 c.args.bytes.items)
    c.args.number c.args.inode.now))
    c.in-Ok.ensures.geometry (shows outer (c.in-Ok.ensures.shows image is))) c.store_indirect.ensures.shows

pub returns-in-Ok-clause-once : goal.returns-in-Ok-clause-once
returns-in-Ok-clause-once c = λ indirect.
    let block = double_dirty c.args.write_set.now c.put_block.new.write_set c.args.number indirect c.args.double
    c.put_block.ensures.geometry c.put_block.ensures.stays c.args.write_set.now.there.geometry c.requires.double
    c.put_block.ensures.once in
    let rest = c.store_indirect.ensures.twice indirect c.args.double in
    omega (arith, block, rest)

pub returns-in-Err-clause-once : goal.returns-in-Err-clause-once
returns-in-Err-clause-once c = λ indirect.
    let block = double_dirty c.args.write_set.now c.put_block.new.write_set c.args.number indirect c.args.double
    c.put_block.ensures.geometry c.put_block.ensures.stays c.args.write_set.now.there.geometry c.requires.double
    c.put_block.ensures.once in
    omega (arith, block)
