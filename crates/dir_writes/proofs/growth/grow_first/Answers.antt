use Rattle.std.proofs.Common.{◌≡◌, ◌≤◌, ◌<◌, ◌+◌, ◌-◌, ◌*◌, [], ◌∷◌, replicate, sym, ap, ◌∙◌, subst, Some, Ok, arith}
use Rattle.base.specs.declared.TheConstants.{BLOCK_BYTES, DIRECT_INDEXES}
use Rattle.layout.specs.declared.geometry.Geometry.{Geometry}
use Rattle.layout.specs.declared.inode.Inode.{Inode}
use Rattle.layout.specs.Decode.{inode_at, span_of}
use Rattle.layout.specs.Fields.{four_bytes}
use Rattle.layout.specs.Parts.{with_bytes, with_inode}
use Rattle.objects.specs.Spliced.{spliced}
use Rattle.inode.specs.WriteSets.WriteSetContents.{Shows, image_of}
use Rattle.inode.proofs.WriteSetsLemmas.PutThere.{moved_write_set}
use Rattle.bitmap.specs.NewBlock.{HasTaken}
use Rattle.bitmap.proofs.NewBlocks.{none_taken}
use Rattle.inode_data.specs.Filling.{mapping}
use Rattle.layout.specs.SlotForm.{first_slot}
use Rattle.dir_writes.proofs.GrownDirectory.{first_indirect, takes_one, takes_two}
use Rattle.dir_writes.proofs.GrownHolds.{first_grows}
use Rattle.dir_writes.proofs.growth.grow_first.Goals as goal

pub returns-in-Ok-clause-ok : goal.returns-in-Ok-clause-ok
returns-in-Ok-clause-ok c = λ blocks tree node name number write_set grows bytes_is at has_space.
    let snap = c.args.write_set.now.there in
    let g = snap.geometry in
    let n = c.args.number in
    let inode = c.args.inode.now in
    let indirect_block = c.in-Ok-Some-take_block.indirect_block in
    let b = c.in-Ok-Some.block in
    let block = first_slot (record { number = number; name = name }) in
    let numbers = c.in_ok-numbers-in-Ok-Some-take_block.numbers.items in
    let geometry : c.take_block-2.new.write_set.there.geometry ≡ g =
    c.take_block-2.ensures.geometry ∙ c.take_block.ensures.geometry in
    let base = image_of blocks c.args.write_set.now in
    let first = image_of blocks c.take_block.new.write_set in
    let middle = image_of blocks c.take_block-2.new.write_set in
    let size = BLOCK_BYTES * (span_of inode + 1) in
    let new = mapping inode size inode.direct indirect_block inode.double in
    let one : HasTaken g base tree (b ∷ []) first =
    rw c.in-Ok-Some.field-0-is at
    (c.in-Ok-Some.ensures.ok blocks base tree [] write_set.shows (none_taken g base tree write_set.holds)) in
    let shown = c.in-Ok-Some.ensures.shows blocks write_set.shows in
    let taken : HasTaken g base tree (indirect_block ∷ b ∷ []) middle =
    subst (λ (s : Geometry). HasTaken s base tree (indirect_block ∷ b ∷ []) middle) c.take_block.ensures.geometry
    (rw c.in-Ok-Some-take_block.field-0-is at
    (c.in-Ok-Some-take_block.ensures.ok blocks base tree (b ∷ []) shown
    (subst (λ (s : Geometry). HasTaken s base tree (b ∷ []) first) (sym c.take_block.ensures.geometry) one))) in
    let seen = c.in-Ok-Some-take_block.ensures.shows blocks shown in
    let search_hit : 4 * (c.args.index - DIRECT_INDEXES) ≡ 4 * (span_of inode - DIRECT_INDEXES) =
    ap (λ k. 4 * (k - DIRECT_INDEXES)) at in
    let names = spliced (replicate BLOCK_BYTES 0) (4 * (span_of inode - DIRECT_INDEXES)) (four_bytes b) in
    let named : numbers ≡ names =
    c.in_ok-numbers-in-Ok-Some-take_block.ensures.made ∙ (λ i. spliced (replicate BLOCK_BYTES 0) (search_hit i) (four_bytes b)) in
    let size_is : c.size_with.result ≡ size = c.size_with.ensures ∙ ap (λ k. BLOCK_BYTES * (k + 1)) at in
    let repointed : c.with_indirect_block-repointed.result ≡ new =
    c.with_indirect_block-repointed.ensures ∙ ap (λ k. mapping inode k inode.direct indirect_block inode.double) size_is in
    let image = with_inode g (with_bytes (with_bytes middle indirect_block 0 names) b 0 block) n new in
    let written : with_inode c.take_block-2.new.write_set.there.geometry
    (with_bytes (with_bytes middle indirect_block 0 numbers) b 0 c.args.bytes.items) n c.with_indirect_block-repointed.result ≡ image =
    λ i. with_inode (geometry i) (with_bytes (with_bytes middle indirect_block 0 (named i)) b 0 (bytes_is i)) n (repointed i) in
    let last = c.store_indirect.ensures.geometry ∙ geometry in
    let is = c.in-Ok.ensures.image blocks ∙ written in
    let both = first_grows snap base tree n inode node name number grows indirect_block b middle taken
    (λ q low. seen.long q (subst (λ (s : Geometry). q < s.blocks) (sym geometry) low))
    (subst (λ k. DIRECT_INDEXES ≤ k) at c.requires.past) c.requires.none in (
      moved_write_set c.args.write_set.now c.store_indirect.new.write_set blocks image _ last is
          (subst (Shows c.store_indirect.new.write_set) written (c.in-Ok.ensures.shows middle seen)) both.0,
      (λ i. inode_at (last i) (is i) n) ∙ both.1 ∙ ap (λ (k : Inode). Ok (Some k)) (sym repointed),
    )

pub returns-in-Ok-None-clause-ok : goal.returns-in-Ok-None-clause-ok
returns-in-Ok-None-clause-ok c = λ blocks tree node name number write_set grows bytes_is at has_space.
    let snap = c.args.write_set.now.there in
    let base = image_of blocks c.args.write_set.now in
    let full = rw c.in-Ok-None.field-0-is at
    (c.in-Ok-None.ensures.ok blocks base tree [] write_set.shows (none_taken snap.geometry base tree write_set.holds)) in
    let one = takes_one snap base tree c.args.number c.args.inode.now node name number grows in
    absurd (omega (arith, full, has_space, one))

pub returns-in-Err-clause-resumable : goal.returns-in-Err-clause-resumable
returns-in-Err-clause-resumable c = λ blocks tree write_set less.
    let g = c.args.write_set.now.there.geometry in
    let base = image_of blocks c.args.write_set.now in
    c.in-Err.ensures.resumable blocks base tree [] write_set.shows (none_taken g base tree write_set.holds)

pub returns-in-Ok-None-take_block-clause-ok : goal.returns-in-Ok-None-take_block-clause-ok
returns-in-Ok-None-take_block-clause-ok c = λ blocks tree node name number write_set grows bytes_is at has_space.
    let snap = c.args.write_set.now.there in
    let g = snap.geometry in
    let n = c.args.number in
    let inode = c.args.inode.now in
    let b = c.in-Ok-Some.block in
    let base = image_of blocks c.args.write_set.now in
    let first = image_of blocks c.take_block.new.write_set in
    let one : HasTaken g base tree (b ∷ []) first =
    rw c.in-Ok-Some.field-0-is at
    (c.in-Ok-Some.ensures.ok blocks base tree [] write_set.shows (none_taken g base tree write_set.holds)) in
    let full = rw c.in-Ok-None-take_block.field-0-is at
    (c.in-Ok-None-take_block.ensures.ok blocks base tree (b ∷ []) (c.in-Ok-Some.ensures.shows blocks write_set.shows)
    (subst (λ (s : Geometry). HasTaken s base tree (b ∷ []) first) (sym c.take_block.ensures.geometry) one)) in
    let past = subst (λ k. DIRECT_INDEXES ≤ k) at c.requires.past in
    let few = first_indirect snap base tree n inode node name number grows c.requires.none in
    let two = takes_two snap base tree n inode node name number grows (omega (arith, past, few)) in
    absurd (omega (arith, full, has_space, two))

pub returns-in-Err-take_block-clause-resumable : goal.returns-in-Err-take_block-clause-resumable
returns-in-Err-take_block-clause-resumable c = λ blocks tree write_set less.
    let g = c.args.write_set.now.there.geometry in
    let b = c.in-Ok-Some.block in
    let base = image_of blocks c.args.write_set.now in
    let first = image_of blocks c.take_block.new.write_set in
    let one : HasTaken g base tree (b ∷ []) first =
    rw c.in-Ok-Some.field-0-is at
    (c.in-Ok-Some.ensures.ok blocks base tree [] write_set.shows (none_taken g base tree write_set.holds)) in
    c.in-Err-take_block.ensures.resumable blocks base tree (b ∷ []) (c.in-Ok-Some.ensures.shows blocks write_set.shows)
    (subst (λ (s : Geometry). HasTaken s base tree (b ∷ []) first) (sym c.take_block.ensures.geometry) one)
