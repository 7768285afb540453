use Rattle.std.proofs.Common.{◌≡◌, ℕ, ◌<◌, sym, ◌∙◌, refl, subst, List, Some, Ok}
use Rattle.std.proofs.lemmas.Result.{IfErr-weaker}
use Rattle.disk.specs.Crash.{Image}
use Rattle.nfs_spec.specs.Model.Tree.{Tree}
use Rattle.nfs_spec.specs.Procedures.Changes.{without_node}
use Rattle.layout.specs.declared.geometry.Geometry.{Geometry}
use Rattle.layout.specs.declared.inode.Inode.{Inode}
use Rattle.layout.specs.Owners.{owned_by}
use Rattle.layout.specs.Parts.{content_in}
use Rattle.inode.specs.declared.snap.Snap.{Snap}
use Rattle.inode.specs.Over.{HasInode}
use Rattle.inode.specs.WriteSets.WriteSetContents.{image_of}
use Rattle.inode.proofs.WriteSetsLemmas.PutThere.{both_ok, moved_write_set}
use Rattle.bitmap.proofs.InodesLemmas.Removed.{all_below, removed}
use Rattle.bitmap.proofs.inodes.removal.remove_file.Goals as goal

-- the numbers that were told are those of its blocks
carried_over : (snap there : Snap) (image : Image) (tree : Tree) (n : ℕ) (inode : Inode) (numbers : List ℕ)
    → snap ≡ there
    → ((blocks : Image) (tree : Tree) (file : ℕ) → HasInode snap blocks tree file inode
    → numbers ≡ owned_by (content_in snap.geometry blocks) (Ok (Some inode)))
    → HasInode there image tree n inode
    → numbers ≡ owned_by (content_in there.geometry image) (Ok (Some inode))
carried_over snap there image tree n inode numbers same tells has =
    subst (λ (s : Snap). HasInode s image tree n inode
    → numbers ≡ owned_by (content_in s.geometry image) (Ok (Some inode))) same
    (λ one. tells image tree n one) has

pub returns-in-Ok-clause-ok : goal.returns-in-Ok-clause-ok
returns-in-Ok-clause-ok c =
    let g = c.args.write_set.now.there.geometry in
    let inode = c.args.inode.now in
    both_ok c.unmark_all.result (λ shows clears blocks tree write_set has.
    let image = image_of blocks c.args.write_set.now in
    moved_write_set c.args.write_set.now c.unmark_all.new.write_set blocks (image_of blocks c.unmark_all.new.write_set)
    (without_node tree c.args.number) c.unmark_all.ensures.geometry refl (shows blocks write_set.shows)
    (removed g image tree c.args.number inode c.deref.result.now write_set.holds has.less has.there
    (c.deref.ensures.value ∙ carried_over c.there.result.now c.args.write_set.now.there image tree c.args.number inode
    c.in-Ok.numbers.items c.there.ensures.there c.in-Ok.ensures.ok has)
    (image_of blocks c.unmark_all.new.write_set) (clears blocks write_set.shows)
    (λ number low. (shows blocks write_set.shows).long number
    (subst (λ (s : Geometry). number < s.blocks) (sym c.unmark_all.ensures.geometry) low))))
    c.unmark_all.ensures.shows c.unmark_all.ensures.clears

pub returns-in-Ok-clause-resumable : goal.returns-in-Ok-clause-resumable
returns-in-Ok-clause-resumable c =
    let g = c.args.write_set.now.there.geometry in
    let inode = c.args.inode.now in
    IfErr-weaker c.unmark_all.result _ _ (λ why resumes blocks tree write_set has.
    let image = image_of blocks c.args.write_set.now in
    resumes (all_below g image tree c.args.number inode c.deref.result.now write_set.holds has.less has.there
    (c.deref.ensures.value ∙ carried_over c.there.result.now c.args.write_set.now.there image tree c.args.number inode
    c.in-Ok.numbers.items c.there.ensures.there c.in-Ok.ensures.ok has))) c.unmark_all.ensures.resumable
