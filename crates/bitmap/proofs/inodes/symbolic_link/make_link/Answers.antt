use Rattle.std.proofs.Common.{◌<◌, ◌≤◌, sym, ◌∙◌, subst, refl, [], ◌∷◌, length, arith}
use Rattle.base.specs.declared.TheConstants.{BLOCK_BYTES}
use Rattle.nfs_spec.specs.Model.Node.{Link}
use Rattle.nfs_spec.specs.Model.Tree.{with_node}
use Rattle.layout.specs.declared.geometry.Geometry.{Geometry}
use Rattle.layout.specs.declared.inode.Inode.{Inode}
use Rattle.layout.specs.Decode.{node_with}
use Rattle.bitmap.specs.NewBlock.{HasTaken}
use Rattle.inode.specs.WriteSets.WriteSetContents.{image_of}
use Rattle.inode.proofs.WriteSetsLemmas.PutThere.{both_ok, moved_write_set}
use Rattle.bitmap.specs.Inodes.Linked.{IsLinkWritten, linked}
use Rattle.bitmap.proofs.InodesLemmas.Linked.{link_holds, none_taken}
use Rattle.bitmap.proofs.inodes.symbolic_link.make_link.Goals as goal

pub returns-in-Ok-Some-clause-ok : goal.returns-in-Ok-Some-clause-ok
returns-in-Ok-Some-clause-ok c =
    let g = c.args.write_set.now.there.geometry in
    let n = c.args.number in
    let inode = c.args.inode.now in
    let target = c.args.target.now in
    let short : length target ≤ BLOCK_BYTES = omega (arith, c.if-target-gt-BLOCK_BYTES.false) in
    both_ok c.write_link.result (λ shows writes_link blocks tree write_set unused kind good sound has_space.
    let base = image_of blocks c.args.write_set.now in
    let middle = image_of blocks c.take_block.new.write_set in
    let last = image_of blocks c.write_link.new.write_set in
    let there = c.in-Ok-Some.ensures.shows blocks write_set.shows in
    let took : HasTaken g base tree (c.in-Ok-Some.block ∷ []) middle =
    (rw c.in-Ok-Some.field-0-is at c.in-Ok-Some.ensures.ok) blocks base tree [] write_set.shows
    (none_taken g base tree write_set.holds) in
    let lies = took.were_free.0.lies in
    let same = c.take_block.ensures.geometry in
    let link_written = subst (λ (one : Inode). IsLinkWritten g n c.in-Ok-Some.block c.in_ok-bytes.bytes.items one middle last)
    c.linked-new.ensures
    (subst (λ (s : Geometry). IsLinkWritten s n c.in-Ok-Some.block c.in_ok-bytes.bytes.items c.linked-new.result middle last)
    same (writes_link blocks there)) in
    moved_write_set c.args.write_set.now c.write_link.new.write_set blocks last (with_node tree n (node_with inode (Link target)))
    (c.write_link.ensures.geometry ∙ same) refl (shows blocks there)
    (link_holds g base tree n inode target c.in-Ok-Some.block write_set.holds unused kind took.were_free.0 middle last
    took (sound c.in-Ok-Some.block lies) good.bytes short
    (λ q low. there.long q (subst (λ (s : Geometry). q < s.blocks) (sym same) low))
    (subst (λ l. IsLinkWritten g n c.in-Ok-Some.block l (linked inode (length target) c.in-Ok-Some.block) middle last)
    c.in_ok-bytes.ensures.is link_written)))
    c.write_link.ensures.shows c.write_link.ensures.link_written

pub returns-in-Ok-None-clause-ok : goal.returns-in-Ok-None-clause-ok
returns-in-Ok-None-clause-ok c = λ blocks tree write_set unused kind good sound has_space.
    let g = c.args.write_set.now.there.geometry in
    let base = image_of blocks c.args.write_set.now in
    let none = (rw c.in-Ok-None.field-0-is at c.in-Ok-None.ensures.ok) blocks base tree [] write_set.shows
    (none_taken g base tree write_set.holds) in
    absurd (omega (arith, none, has_space))

pub returns-in-Err-clause-resumable : goal.returns-in-Err-clause-resumable
returns-in-Err-clause-resumable c = λ blocks tree write_set.
    let g = c.args.write_set.now.there.geometry in
    let base = image_of blocks c.args.write_set.now in
    c.in-Err.ensures.resumable blocks base tree [] write_set.shows (none_taken g base tree write_set.holds)
