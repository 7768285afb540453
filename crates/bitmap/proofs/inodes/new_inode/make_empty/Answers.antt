use Rattle.std.proofs.Common.{◌≡◌, ◌≤◌, ◌<◌, sym, ap, ◌∙◌, subst, arith}
use Rattle.nfs_spec.specs.Model.Tree as trees
use Rattle.layout.specs.declared.geometry.Geometry.{Geometry}
use Rattle.layout.specs.Parts.{with_inode}
use Rattle.inode.specs.declared.snap.Snap.{Snap}
use Rattle.inode.specs.WriteSets.WriteSetContents.{Shows, image_of}
use Rattle.inode.proofs.WriteSetsLemmas.PutThere.{both_ok, moved_write_set}
use Rattle.bitmap.specs.Inodes.Emptied.{emptied}
use Rattle.bitmap.proofs.InodesLemmas.Made.{made}
use Rattle.bitmap.proofs.inodes.new_inode.make_empty.Goals as goal

pub returns-then-number-there-clause-ok : goal.returns-then-number-there-clause-ok
returns-then-number-there-clause-ok c = λ blocks tree write_set unused sound.
    let past : c.there.result.now.geometry.inodes ≤ c.args.number = omega (arith, c.if-number-there.true) in
    let same : tree.geometry.inodes ≡ c.args.write_set.now.there.geometry.inodes =
    ap (λ (one : trees.Geometry). one.inodes) write_set.holds.parts.geometry in
    let there = ap (λ (s : Snap). s.geometry.inodes) c.there.ensures.there in
    let most = unused.most in
    absurd (omega (arith, past, same, there, most))

pub returns-in-Ok-clause-ok : goal.returns-in-Ok-clause-ok
returns-in-Ok-clause-ok c =
    let g = c.args.write_set.now.there.geometry in
    let n = c.args.number in
    let inode = c.args.inode.now in
    both_ok c.put_inode.result (λ shows images blocks tree write_set unused sound.
    let middle = image_of blocks c.mark_number.new.write_set in
    let before = c.in-Ok.ensures.shows blocks write_set.shows in
    let written : with_inode c.mark_number.new.write_set.there.geometry middle n c.emptied.result
    ≡ with_inode g middle n (emptied inode) =
    λ i. with_inode (c.mark_number.ensures.geometry i) middle n (c.emptied.ensures i) in
    moved_write_set c.args.write_set.now c.put_inode.new.self blocks (with_inode g middle n (emptied inode)) _
    (c.put_inode.ensures.geometry ∙ c.mark_number.ensures.geometry) (images blocks ∙ written)
    (subst (Shows c.put_inode.new.self) written (shows middle before))
    (made g (image_of blocks c.args.write_set.now) tree n inode write_set.holds unused sound middle
    (c.in-Ok.ensures.marks blocks write_set.shows)
    (λ number low. before.long number
    (subst (λ (s : Geometry). number < s.blocks) (sym c.mark_number.ensures.geometry) low))))
    c.put_inode.ensures.shows c.put_inode.ensures.image
