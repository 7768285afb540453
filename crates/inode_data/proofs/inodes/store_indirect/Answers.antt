use Rattle.std.proofs.Common.{subst, arith}
use Rattle.std.proofs.lemmas.Result.{on_ok_weaker}
use Rattle.layout.specs.Parts.{with_bytes, with_inode}
use Rattle.inode.specs.WriteSets.WriteSetContents.{Shows}
use Rattle.inode_data.proofs.Once.{indirect_dirty, one_dirty}
use Rattle.inode_data.proofs.inodes.store_indirect.Goals as goal

pub returns-in-Ok-clause-shows : goal.returns-in-Ok-clause-shows
returns-in-Ok-clause-shows c =
    on_ok_weaker c.store.result (λ shows image is.
    let named = with_bytes image c.args.indirect_block 0 c.args.numbers.items in
    subst (λ g. Shows c.store.new.write_set (with_inode g (with_bytes named c.args.block 0 c.args.bytes.items)
    c.args.number c.args.inode.now))
    c.in-Ok.ensures.geometry (shows named (c.in-Ok.ensures.shows image is))) c.store.ensures.shows

pub returns-in-Ok-clause-once : goal.returns-in-Ok-clause-once
returns-in-Ok-clause-once c = λ double.
    let block = indirect_dirty c.args.write_set.now c.put_block.new.write_set c.args.number c.args.indirect_block double
    c.put_block.ensures.geometry c.put_block.ensures.stays c.args.write_set.now.there.geometry c.requires.indirect_block
    c.put_block.ensures.once in
    let rest = c.store.ensures.once c.args.indirect_block double in
    omega (arith, block, rest)

pub returns-in-Err-clause-once : goal.returns-in-Err-clause-once
returns-in-Err-clause-once c = λ double.
    let block = indirect_dirty c.args.write_set.now c.put_block.new.write_set c.args.number c.args.indirect_block double
    c.put_block.ensures.geometry c.put_block.ensures.stays c.args.write_set.now.there.geometry c.requires.indirect_block
    c.put_block.ensures.once in
    omega (arith, block)

pub returns-in-Ok-clause-twice : goal.returns-in-Ok-clause-twice
returns-in-Ok-clause-twice c = λ indirect double.
    let block = one_dirty c.args.write_set.now c.put_block.new.write_set c.args.number indirect double
    c.put_block.ensures.geometry c.put_block.ensures.stays c.put_block.ensures.dirty_count in
    let rest = c.store.ensures.once indirect double in
    omega (arith, block, rest)

pub returns-in-Err-clause-twice : goal.returns-in-Err-clause-twice
returns-in-Err-clause-twice c = λ indirect double.
    let block = one_dirty c.args.write_set.now c.put_block.new.write_set c.args.number indirect double
    c.put_block.ensures.geometry c.put_block.ensures.stays c.put_block.ensures.dirty_count in
    omega (arith, block)
