use Rattle.std.proofs.Common.{◌≡◌, ℕ, ◌<◌, sym, ap, ◌∙◌, refl, subst, true}
use Rattle.layout.specs.declared.geometry.Geometry.{Geometry}
use Rattle.layout.specs.declared.inode.Inode.{Inode}
use Rattle.layout.specs.InodeForm.{SoundInode, is_data_block_or_none}
use Rattle.inode.specs.declared.snap.Snap.{Snap}
use Rattle.inode.specs.Over.{HasInode}
use Rattle.inode.specs.WriteSets.WriteSetContents.{image_of}
use Rattle.inode.proofs.WriteSetsLemmas.PutThere.{moved_write_set}
use Rattle.inode_sizes.specs.Cut.{numbered}
use Rattle.inode_sizes.specs.CutBlocks.{FitsCut, IsCut}
use Rattle.inode_sizes.proofs.CutFile.{cost_now, new_sound}
use Rattle.inode_sizes.proofs.CutHolds.{cut_holds, gone_below}
use Rattle.inode_sizes.proofs.RegularThere.{IsRegularThere}
use Rattle.inode_sizes.proofs.WhatLiesThere.{cut_there, last_index_there}
use Rattle.inode_sizes.proofs.cuts.cut.Goals as goal

pub returns-in-Err-clause-resumable : goal.returns-in-Err-clause-resumable
returns-in-Err-clause-resumable c = λ blocks tree write_set has.
    let image = image_of blocks c.args.write_set.now in
    c.in-Err.ensures.resumable image tree c.args.number
    (subst (λ (s : Snap). HasInode s image tree c.args.number c.args.inode.now) (sym c.there-2.ensures.there) has)

pub returns-in-Err-last_of-clause-resumable : goal.returns-in-Err-last_of-clause-resumable
returns-in-Err-last_of-clause-resumable c = λ blocks tree write_set has.
    let image = image_of blocks c.args.write_set.now in
    c.in-Err-last_of.ensures.resumable image tree c.args.number
    (subst (λ (s : Snap). HasInode s image tree c.args.number c.args.inode.now) (sym c.there-3.ensures.there) has)

pub write_cut-requires-clause-last : goal.write_cut-requires-clause-last
write_cut-requires-clause-last c =
    subst (λ (s : Snap). is_data_block_or_none s.geometry c.in-Ok-last_of.last ≡ true) c.there-3.ensures.there
    c.in-Ok-last_of.ensures.placed

pub write_cut-requires-clause-fits : goal.write_cut-requires-clause-fits
write_cut-requires-clause-fits c =
    subst (λ (s : Snap). FitsCut s.geometry c.in-Ok.cut) c.there-2.ensures.there c.in-Ok.ensures.fits

pub returns-in-Ok-write_cut-clause-ok : goal.returns-in-Ok-write_cut-clause-ok
returns-in-Ok-write_cut-clause-ok c = λ blocks tree write_set has sound.
    let g = c.args.write_set.now.there.geometry in
    let n = c.args.number in
    let inode = c.args.inode.now in
    let looks = c.args.looks.now in
    let size = c.args.size in
    let image = image_of blocks c.args.write_set.now in
    let final = image_of blocks c.write_cut.new.write_set in
    let cut = c.in-Ok.cut in
    let less = c.requires.less in
    let regular : IsRegularThere g image tree n inode =
    record { holds = write_set.holds; less = has.less; read = has.there; regular = c.requires.regular } in
    let is = cut_there c.there-2.result.now c.args.write_set.now.there image tree n inode c.count_before-count.result _
    c.there-2.ensures.there c.count_before-count.ensures.is has cut c.in-Ok.ensures.ok in
    let last_is = last_index_there c.there-3.result.now c.args.write_set.now.there image tree n inode c.count_before-count.result _
    c.there-3.ensures.there c.count_before-count.ensures.is has c.in-Ok-last_of.last c.in-Ok-last_of.ensures.ok in
    let new_is = c.numbered-new.ensures
    ∙ ap (λ (one : Inode). numbered one size cut.direct_part.numbers.items cut.indirect_part.pointer cut.double.pointer)
    c.attributed.ensures in
    let whole = new_sound g image tree n inode size regular less cut is looks sound in
    let cuts = subst (λ (t : Inode × ℕ × ℕ). IsCut g n t.0 t.1 t.2 cut image final)
    (λ i. (new_is i, last_is i, c.left_in.ensures.is i))
    (c.in-Ok-write_cut.ensures.cuts blocks tree write_set (subst (SoundInode g) (sym new_is) whole)
    c.left_in.ensures.few) in
    let shows = c.in-Ok-write_cut.ensures.shows blocks write_set.shows in (
      cost_now g image tree n inode size regular less cut is looks ∙ sym c.used_by.ensures,
      moved_write_set c.args.write_set.now c.write_cut.new.write_set blocks final _ c.write_cut.ensures.geometry refl shows
          (cut_holds g image tree n inode size regular less cut is looks final cuts
          (λ q low. shows.long q (subst (λ (s : Geometry). q < s.blocks) (sym c.write_cut.ensures.geometry) low))),
    )

pub returns-clause-resumable : goal.returns-clause-resumable
returns-clause-resumable c = λ blocks tree write_set has.
    let g = c.args.write_set.now.there.geometry in
    let inode = c.args.inode.now in
    let image = image_of blocks c.args.write_set.now in
    let regular : IsRegularThere g image tree c.args.number inode =
    record { holds = write_set.holds; less = has.less; read = has.there; regular = c.requires.regular } in
    let is = cut_there c.there-2.result.now c.args.write_set.now.there image tree c.args.number inode
    c.count_before-count.result _ c.there-2.ensures.there c.count_before-count.ensures.is has c.in-Ok.cut
    c.in-Ok.ensures.ok in
    c.in-Err-write_cut.ensures.resumable
    (gone_below g image tree c.args.number inode c.args.size regular c.requires.less c.in-Ok.cut is)
