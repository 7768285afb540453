use Rattle.std.proofs.Common.{◌≡◌, ◌<◌, ◌+◌, ◌*◌, [], ◌∷◌, set, sym, ap, ◌∙◌, subst, Some, Ok, arith}
use Rattle.base.specs.declared.TheConstants.{BLOCK_BYTES, DIRECT_INDEXES}
use Rattle.layout.specs.declared.geometry.Geometry.{Geometry}
use Rattle.layout.specs.declared.inode.Inode.{Inode}
use Rattle.layout.specs.Decode.{inode_at, span_of}
use Rattle.layout.specs.Parts.{with_bytes, with_inode}
use Rattle.inode.specs.WriteSets.WriteSetContents.{Shows, image_of}
use Rattle.inode.proofs.WriteSetsLemmas.PutThere.{moved_write_set}
use Rattle.bitmap.specs.NewBlock.{HasTaken}
use Rattle.bitmap.proofs.NewBlocks.{none_taken}
use Rattle.inode_data.specs.Filling.{mapping}
use Rattle.layout.specs.SlotForm.{first_slot}
use Rattle.dir_writes.proofs.GrownDirectory.{takes_one}
use Rattle.dir_writes.proofs.GrownHolds.{direct_grows}
use Rattle.dir_writes.proofs.growth.grow_direct.Goals as goal

pub returns-in-Ok-clause-ok : goal.returns-in-Ok-clause-ok
returns-in-Ok-clause-ok c = λ blocks tree node name number write_set grows bytes_is at has_space.
    let snap = c.args.write_set.now.there in
    let g = snap.geometry in
    let n = c.args.number in
    let inode = c.args.inode.now in
    let b = c.in-Ok-Some.block in
    let block = first_slot (record { number = number; name = name }) in
    let base = image_of blocks c.args.write_set.now in
    let middle = image_of blocks c.take_block.new.write_set in
    let size = BLOCK_BYTES * (span_of inode + 1) in
    let new = mapping inode size (set inode.direct (span_of inode) b) inode.indirect inode.double in
    let taken : HasTaken g base tree (b ∷ []) middle =
    rw c.in-Ok-Some.field-0-is at
    (c.in-Ok-Some.ensures.ok blocks base tree [] write_set.shows (none_taken g base tree write_set.holds)) in
    let seen = c.in-Ok-Some.ensures.shows blocks write_set.shows in
    let size_is : c.size_with.result ≡ size = c.size_with.ensures ∙ ap (λ k. BLOCK_BYTES * (k + 1)) at in
    let named : c.naming-named.result ≡ new =
    c.naming-named.ensures ∙ (λ i. mapping inode (size_is i) (set inode.direct (at i) b) inode.indirect inode.double) in
    let image = with_inode g (with_bytes middle b 0 block) n new in
    let written : with_inode c.take_block.new.write_set.there.geometry (with_bytes middle b 0 c.args.bytes.items) n
    c.naming-named.result ≡ image =
    λ i. with_inode (c.take_block.ensures.geometry i) (with_bytes middle b 0 (bytes_is i)) n (named i) in
    let geometry = c.store.ensures.geometry ∙ c.take_block.ensures.geometry in
    let is = c.in-Ok.ensures.image blocks ∙ written in
    let both = direct_grows snap base tree n inode node name number grows b middle taken
    (λ q low. seen.long q (subst (λ (s : Geometry). q < s.blocks) (sym c.take_block.ensures.geometry) low))
    (subst (λ k. k < DIRECT_INDEXES) at c.requires.direct_part) in (
      moved_write_set c.args.write_set.now c.store.new.write_set blocks image _ geometry is
          (subst (Shows c.store.new.write_set) written (c.in-Ok.ensures.shows middle seen)) both.0,
      (λ i. inode_at (geometry i) (is i) n) ∙ both.1 ∙ ap (λ (k : Inode). Ok (Some k)) (sym named),
    )

pub returns-in-Ok-None-clause-ok : goal.returns-in-Ok-None-clause-ok
returns-in-Ok-None-clause-ok c = λ blocks tree node name number write_set grows bytes_is at has_space.
    let snap = c.args.write_set.now.there in
    let base = image_of blocks c.args.write_set.now in
    let full = rw c.in-Ok-None.field-0-is at
    (c.in-Ok-None.ensures.ok blocks base tree [] write_set.shows (none_taken snap.geometry base tree write_set.holds)) in
    let one = takes_one snap base tree c.args.number c.args.inode.now node name number grows in
    absurd (omega (arith, full, has_space, one))

pub returns-in-Err-clause-resumable : goal.returns-in-Err-clause-resumable
returns-in-Err-clause-resumable c = λ blocks tree write_set less.
    let g = c.args.write_set.now.there.geometry in
    let base = image_of blocks c.args.write_set.now in
    c.in-Err.ensures.resumable blocks base tree [] write_set.shows (none_taken g base tree write_set.holds)
