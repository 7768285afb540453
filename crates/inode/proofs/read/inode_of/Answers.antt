use Rattle.std.proofs.Common.{sym, ◌∙◌}
use Rattle.inode.proofs.ReadThere.{read_there, no_fault, was_read}
use Rattle.inode.proofs.read.inode_of.Goals as goal

pub returns-in-Ok-clause-there : goal.returns-in-Ok-clause-there
returns-in-Ok-clause-there c = λ blocks saw.
    read_there c.args.snap.now.geometry blocks c.args.number c.inode_addr.result c.in_ok-bytes.bytes.now
    c.inode_addr.ensures.block c.inode_addr.ensures.offset c.inode_addr.ensures.len
    (c.in_ok-bytes.ensures.there blocks saw)
    ∙ sym c.in-Ok.ensures.value

pub returns-in-Err-clause-io : goal.returns-in-Err-clause-io
returns-in-Err-clause-io c = λ blocks tree holds saw.
    no_fault c.args.snap.now.geometry blocks tree c.args.number c.in-Err.field-0 c.requires holds
    (read_there c.args.snap.now.geometry blocks c.args.number c.inode_addr.result c.in_ok-bytes.bytes.now
    c.inode_addr.ensures.block c.inode_addr.ensures.offset c.inode_addr.ensures.len
    (c.in_ok-bytes.ensures.there blocks saw)
    ∙ sym c.in-Err.ensures.value)

pub returns-in-Ok-clause-read : goal.returns-in-Ok-clause-read
returns-in-Ok-clause-read c =
    was_read c.args.snap.now.geometry c.args.snap.now.objects.items c.args.number c.inode_addr.result
    (record {
      block = c.inode_addr.ensures.block;
      offset = c.inode_addr.ensures.offset;
      len = c.inode_addr.ensures.len;
    }) c.in_ok-bytes.bytes.now c.in_ok-bytes.ensures.read c.in-Ok.found (sym c.in-Ok.ensures.value)
