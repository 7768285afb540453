use Rattle.std.proofs.Common.{◌≡◌, ◌≤◌, ◌<◌, ◌+◌, ◌-◌, ◌*◌, [], ◌∷◌, sym, ap, ◌∙◌, subst, Some, Ok, arith}
use Rattle.base.specs.declared.TheConstants.{BLOCK_BYTES, DIRECT_INDEXES}
use Rattle.layout.specs.declared.geometry.Geometry.{Geometry}
use Rattle.layout.specs.declared.inode.Inode.{Inode}
use Rattle.layout.specs.Decode.{inode_at, span_of}
use Rattle.layout.specs.Fields.{four_bytes}
use Rattle.layout.specs.Parts.{content_in, with_bytes, with_inode}
use Rattle.objects.specs.Spliced.{spliced}
use Rattle.inode.specs.declared.snap.Snap.{Snap}
use Rattle.inode.specs.Over.{IsOver}
use Rattle.inode.specs.WriteSets.WriteSetContents.{Shows, image_of}
use Rattle.inode.proofs.WriteSetsLemmas.PutThere.{moved_write_set, over_of}
use Rattle.bitmap.specs.NewBlock.{HasTaken}
use Rattle.bitmap.proofs.NewBlocks.{none_taken}
use Rattle.inode_data.specs.Filling.{mapping}
use Rattle.layout.specs.SlotForm.{first_slot}
use Rattle.dir_writes.proofs.GrownDirectory.{takes_one}
use Rattle.dir_writes.proofs.GrownHolds.{indirect_grows}
use Rattle.dir_writes.proofs.growth.grow_indirect.Goals as goal

pub returns-in-Ok-store_indirect-clause-ok : goal.returns-in-Ok-store_indirect-clause-ok
returns-in-Ok-store_indirect-clause-ok c = λ blocks tree node name number write_set grows bytes_is at has_space.
    let snap = c.args.write_set.now.there in
    let g = snap.geometry in
    let n = c.args.number in
    let inode = c.args.inode.now in
    let indirect_block = inode.indirect in
    let b = c.in-Ok-Some.block in
    let block = first_slot (record { number = number; name = name }) in
    let numbers = c.in_ok-numbers-in-Ok-Some.numbers.items in
    let base = image_of blocks c.args.write_set.now in
    let middle = image_of blocks c.take_block.new.write_set in
    let size = BLOCK_BYTES * (span_of inode + 1) in
    let new = mapping inode size inode.direct indirect_block inode.double in
    let taken : HasTaken g base tree (b ∷ []) middle =
    rw c.in-Ok-Some.field-0-is at
    (c.in-Ok-Some.ensures.ok blocks base tree [] write_set.shows (none_taken g base tree write_set.holds)) in
    let seen = c.in-Ok-Some.ensures.shows blocks write_set.shows in
    let was : c.in-Ok.block.now ≡ content_in g base indirect_block =
    subst (λ (s : Snap). c.in-Ok.block.now ≡ content_in s.geometry base indirect_block) c.there.ensures.there
    (c.in-Ok.ensures.ok base tree
    (subst (λ (s : Snap). IsOver s base tree) (sym c.there.ensures.there)
    (over_of c.args.write_set.now blocks tree write_set))) in
    let old : c.deref.result.now ≡ content_in g base indirect_block = c.deref.ensures.value ∙ c.in_ok-old-in-Ok.ensures.items ∙ was in
    let search_hit : 4 * (c.args.index - DIRECT_INDEXES) ≡ 4 * (span_of inode - DIRECT_INDEXES) =
    ap (λ k. 4 * (k - DIRECT_INDEXES)) at in
    let names = spliced (content_in g base indirect_block) (4 * (span_of inode - DIRECT_INDEXES)) (four_bytes b) in
    let named : numbers ≡ names =
    c.in_ok-numbers-in-Ok-Some.ensures.made ∙ (λ i. spliced (old i) (search_hit i) (four_bytes b)) in
    let size_is : c.size_with.result ≡ size = c.size_with.ensures ∙ ap (λ k. BLOCK_BYTES * (k + 1)) at in
    let same : c.sized-same.result ≡ new =
    c.sized-same.ensures ∙ ap (λ k. mapping inode k inode.direct indirect_block inode.double) size_is in
    let image = with_inode g (with_bytes (with_bytes middle indirect_block 0 names) b 0 block) n new in
    let written : with_inode c.take_block.new.write_set.there.geometry
    (with_bytes (with_bytes middle indirect_block 0 numbers) b 0 c.args.bytes.items) n c.sized-same.result ≡ image =
    λ i. with_inode (c.take_block.ensures.geometry i)
    (with_bytes (with_bytes middle indirect_block 0 (named i)) b 0 (bytes_is i)) n (same i) in
    let geometry = c.store_indirect.ensures.geometry ∙ c.take_block.ensures.geometry in
    let is = c.in-Ok-store_indirect.ensures.image blocks ∙ written in
    let both = indirect_grows snap base tree n inode node name number grows b middle taken
    (λ q low. seen.long q (subst (λ (s : Geometry). q < s.blocks) (sym c.take_block.ensures.geometry) low))
    (subst (λ k. DIRECT_INDEXES ≤ k) at c.requires.past) c.requires.indirect_block in (
      moved_write_set c.args.write_set.now c.store_indirect.new.write_set blocks image _ geometry is
          (subst (Shows c.store_indirect.new.write_set) written (c.in-Ok-store_indirect.ensures.shows middle seen)) both.0,
      (λ i. inode_at (geometry i) (is i) n) ∙ both.1 ∙ ap (λ (k : Inode). Ok (Some k)) (sym same),
    )

pub returns-in-Ok-None-clause-ok : goal.returns-in-Ok-None-clause-ok
returns-in-Ok-None-clause-ok c = λ blocks tree node name number write_set grows bytes_is at has_space.
    let snap = c.args.write_set.now.there in
    let base = image_of blocks c.args.write_set.now in
    let full = rw c.in-Ok-None.field-0-is at
    (c.in-Ok-None.ensures.ok blocks base tree [] write_set.shows (none_taken snap.geometry base tree write_set.holds)) in
    let one = takes_one snap base tree c.args.number c.args.inode.now node name number grows in
    absurd (omega (arith, full, has_space, one))

pub returns-clause-resumable : goal.returns-clause-resumable
returns-clause-resumable c = λ blocks tree write_set less.
    let g = c.args.write_set.now.there.geometry in
    let base = image_of blocks c.args.write_set.now in
    c.in-Err-take_block.ensures.resumable blocks base tree [] write_set.shows (none_taken g base tree write_set.holds)
