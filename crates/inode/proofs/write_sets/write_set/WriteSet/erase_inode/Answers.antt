use Rattle.std.proofs.Common.{rules, ap, ◌∙◌, subst, arith, replicate}
use Rattle.base.specs.declared.TheConstants.{INODE_BYTES}
use Rattle.layout.specs.Objects.{IsObject, inode}
use Rattle.layout.specs.Places.{inode_block}
use Rattle.inode.specs.declared.snap.Snap.{Snap}
use Rattle.inode.specs.WriteSets.WriteSetContents.{Shows, image_of}
use Rattle.inode.proofs.WriteSetsLemmas.PutThere.{put_there}
use Rattle.inode.proofs.write_sets.write_set.WriteSet.erase_inode.Goals as goal

pub put-requires-clause-object : goal.put-requires-clause-object
put-requires-clause-object c =
    subst (λ (s : Snap). IsObject s.geometry c.inode_addr.result) c.there.ensures.there
    (inode c.args.number (omega (arith, c.if-number-geometry.false)) c.inode_addr.ensures.block
    c.inode_addr.ensures.offset c.inode_addr.ensures.len)

pub returns-clause-shows : goal.returns-clause-shows
returns-clause-shows c = λ image shows.
    subst (Shows c.put.new.self)
    (put_there c.args.self.now.there.geometry image c.args.number c.inode_addr.result c.in_ok-bytes.bytes.items
    (replicate INODE_BYTES 0)
    (c.inode_addr.ensures.block ∙ ap (λ (s : Snap). inode_block s.geometry c.args.number) c.there.ensures.there)
    c.inode_addr.ensures.offset (search rules))
    (c.in_ok-put.ensures.shows image shows)

pub returns-clause-image : goal.returns-clause-image
returns-clause-image c = λ blocks.
    c.in_ok-put.ensures.image blocks
    ∙ put_there c.args.self.now.there.geometry (image_of blocks c.args.self.now) c.args.number
    c.inode_addr.result c.in_ok-bytes.bytes.items (replicate INODE_BYTES 0)
    (c.inode_addr.ensures.block ∙ ap (λ (s : Snap). inode_block s.geometry c.args.number) c.there.ensures.there)
    c.inode_addr.ensures.offset (search rules)
