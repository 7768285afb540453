use Rattle.std.proofs.Common.{ap, ◌∙◌, subst, arith}
use Rattle.layout.specs.InodeForm.{inode_bytes}
use Rattle.layout.specs.Objects.{IsObject, inode}
use Rattle.layout.specs.Places.{inode_block}
use Rattle.inode.specs.declared.snap.Snap.{Snap}
use Rattle.inode.specs.WriteSets.WriteSetContents.{Shows, image_of}
use Rattle.inode.proofs.WriteSetsLemmas.PutThere.{put_there}
use Rattle.inode.proofs.WriteSetsLemmas.DirtyCounts.{inode_once}
use Rattle.inode.proofs.write_sets.write_set.WriteSet.put_inode.Goals as goal

pub put-requires-clause-object : goal.put-requires-clause-object
put-requires-clause-object c =
    subst (λ (s : Snap). IsObject s.geometry c.inode_addr.result) c.there.ensures.there
    (inode c.args.number (omega (arith, c.if-number-geometry.false)) c.inode_addr.ensures.block
    c.inode_addr.ensures.offset c.inode_addr.ensures.len)

pub returns-clause-shows : goal.returns-clause-shows
returns-clause-shows c = λ image shows.
    subst (Shows c.put.new.self)
    (put_there c.args.self.now.there.geometry image c.args.number c.inode_addr.result c.in_ok-bytes.bytes.items
    (inode_bytes c.args.inode.now)
    (c.inode_addr.ensures.block ∙ ap (λ (s : Snap). inode_block s.geometry c.args.number) c.there.ensures.there)
    c.inode_addr.ensures.offset c.in_ok-bytes.ensures.bytes)
    (c.in_ok-put.ensures.shows image shows)

pub returns-clause-image : goal.returns-clause-image
returns-clause-image c = λ blocks.
    c.in_ok-put.ensures.image blocks
    ∙ put_there c.args.self.now.there.geometry (image_of blocks c.args.self.now) c.args.number
    c.inode_addr.result c.in_ok-bytes.bytes.items (inode_bytes c.args.inode.now)
    (c.inode_addr.ensures.block ∙ ap (λ (s : Snap). inode_block s.geometry c.args.number) c.there.ensures.there)
    c.inode_addr.ensures.offset c.in_ok-bytes.ensures.bytes

pub returns-clause-once : goal.returns-clause-once
returns-clause-once c =
    inode_once c.args.self.now c.put.new.self c.args.number c.put.ensures.geometry c.inode_addr.result
    (c.inode_addr.ensures.block ∙ ap (λ (s : Snap). inode_block s.geometry c.args.number) c.there.ensures.there)
    c.inode_addr.ensures.offset c.inode_addr.ensures.len c.put.ensures.once

pub returns-in_err-put-clause-once : goal.returns-in_err-put-clause-once
returns-in_err-put-clause-once c =
    inode_once c.args.self.now c.put.new.self c.args.number c.put.ensures.geometry c.inode_addr.result
    (c.inode_addr.ensures.block ∙ ap (λ (s : Snap). inode_block s.geometry c.args.number) c.there.ensures.there)
    c.inode_addr.ensures.offset c.inode_addr.ensures.len c.put.ensures.once
