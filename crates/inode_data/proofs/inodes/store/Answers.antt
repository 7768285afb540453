use Rattle.std.proofs.Common.{subst, arith}
use Rattle.std.proofs.lemmas.Result.{on_ok_weaker}
use Rattle.layout.specs.Parts.{with_bytes, with_inode}
use Rattle.inode.specs.WriteSets.WriteSetContents.{Shows}
use Rattle.inode_data.proofs.Once.{inode_dirty, one_dirty}
use Rattle.inode_data.proofs.inodes.store.Goals as goal

pub returns-in-Ok-clause-shows : goal.returns-in-Ok-clause-shows
returns-in-Ok-clause-shows c =
    on_ok_weaker c.put_inode.result (λ shows image is.
    let written = with_bytes image c.args.block 0 c.args.bytes.items in
    subst (λ g. Shows c.put_inode.new.self (with_inode g written c.args.number c.args.inode.now))
    c.in-Ok.ensures.geometry (shows written (c.in-Ok.ensures.shows image is))) c.put_inode.ensures.shows

pub returns-in-Ok-clause-once : goal.returns-in-Ok-clause-once
returns-in-Ok-clause-once c = λ indirect_block double.
    let block = one_dirty c.args.write_set.now c.put_block.new.write_set c.args.number indirect_block double c.put_block.ensures.geometry
    c.put_block.ensures.stays c.put_block.ensures.dirty_count in
    let inode = inode_dirty c.put_block.new.write_set c.put_inode.new.self c.args.number indirect_block double
    c.put_inode.ensures.geometry c.put_inode.ensures.stays c.put_inode.ensures.once in
    omega (arith, block, inode)

pub returns-in-Err-clause-once : goal.returns-in-Err-clause-once
returns-in-Err-clause-once c = λ indirect_block double.
    one_dirty c.args.write_set.now c.put_block.new.write_set c.args.number indirect_block double c.put_block.ensures.geometry
    c.put_block.ensures.stays c.put_block.ensures.dirty_count
