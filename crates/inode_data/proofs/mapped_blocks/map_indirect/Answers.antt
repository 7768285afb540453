use Rattle.std.proofs.Common.{ℕ, ◌≡◌, ◌≤◌, ◌<◌, ◌*◌, ◌-◌, ◌/◌, [], ◌∷◌, List, length, sym, ap, ◌∙◌, subst, arith}
use Rattle.base.specs.declared.TheConstants.{BLOCK_BYTES, DIRECT_INDEXES, FIRST_DOUBLE_INDEX}
use Rattle.nfs_types.specs.Fits.{AreBytes}
use Rattle.objects.specs.Spliced.{spliced}
use Rattle.layout.specs.declared.geometry.Geometry.{Geometry}
use Rattle.layout.specs.Fields.{four_bytes}
use Rattle.layout.specs.declared.inode.Inode.{Inode}
use Rattle.layout.specs.Parts.{content_in, put, with_bytes, with_inode}
use Rattle.inode.specs.declared.snap.Snap.{Snap}
use Rattle.inode.specs.Over.{IsOver}
use Rattle.inode.specs.WriteSets.WriteSetContents.{Shows, image_of}
use Rattle.inode.proofs.WriteSetsLemmas.PutThere.{over_of}
use Rattle.bitmap.specs.NewBlock.{HasTaken}
use Rattle.bitmap.proofs.NewBlocks.{none_taken}
use Rattle.inode_data.specs.Filling.{Fills, mapping}
use Rattle.inode_data.specs.CleanCounts.{clean_count}
use Rattle.inode_data.proofs.Cases.{block_named_indirect}
use Rattle.inode_data.proofs.PointerNumbers.{named_count}
use Rattle.inode_data.proofs.PieceWritten.{long_content, not_zero}
use Rattle.inode_data.proofs.Stored.{content_are, named_are, stored_indirect}
use Rattle.inode_data.proofs.MappedFile.{as_mapped}
use Rattle.inode_data.proofs.Once.{nothing_dirty}
use Rattle.inode_data.proofs.Whole.{moved_piece}
use Rattle.inode_data.proofs.mapped_blocks.map_indirect.Goals as goal

pub returns-in-Ok-store_indirect-clause-ok : goal.returns-in-Ok-store_indirect-clause-ok
returns-in-Ok-store_indirect-clause-ok c =
    let g = c.args.write_set.now.there.geometry in
    let n = c.args.number in
    let inode = c.args.inode.now in
    let indirect_block = inode.indirect in
    let b = c.in-Ok-Some.block in
    let bytes = c.args.bytes.items in
    let numbers = c.in_ok-numbers-in-Ok-Some.numbers.items in
    let size = c.args.size in
    λ done blocks tree offset piece write_set write at none.
    let base = image_of blocks c.args.write_set.now in
    let middle = image_of blocks c.take_block.new.write_set in
    let new = mapping inode size inode.direct indirect_block inode.double in
    let taken : HasTaken g base tree (b ∷ []) middle =
    rw c.in-Ok-Some.field-0-is at
    (c.in-Ok-Some.ensures.ok blocks base tree [] write_set.shows (none_taken g base tree write_set.holds)) in
    let seen = c.in-Ok-Some.ensures.shows blocks write_set.shows in
    let was : c.in-Ok.block.now ≡ content_in g base indirect_block =
    subst (λ (s : Snap). c.in-Ok.block.now ≡ content_in s.geometry base indirect_block) c.there.ensures.there
    (c.in-Ok.ensures.ok base tree
    (subst (λ (s : Snap). IsOver s base tree) (sym c.there.ensures.there)
    (over_of c.args.write_set.now blocks tree write_set))) in
    let offsets_agree : 4 * (c.args.index - DIRECT_INDEXES) ≡ 4 * (offset / BLOCK_BYTES - DIRECT_INDEXES) =
    ap (λ k. 4 * (k - DIRECT_INDEXES)) at in
    let old : c.deref.result.now ≡ content_in g base indirect_block = c.deref.ensures.value ∙ c.in_ok-old-in-Ok.ensures.items
    ∙ was in
    let named : numbers ≡ spliced (content_in g base indirect_block) (4 * (offset / BLOCK_BYTES - DIRECT_INDEXES)) (four_bytes b) =
    c.in_ok-numbers-in-Ok-Some.ensures.made ∙ (λ i. spliced (old i) (offsets_agree i) (four_bytes b)) in
    let image = with_bytes (with_bytes middle indirect_block 0 numbers) b 0 bytes in
    let written : with_inode c.take_block.new.write_set.there.geometry image n c.sized-same.result
    ≡ with_inode g image n new =
    λ i. with_inode (c.take_block.ensures.geometry i) image n (c.sized-same.ensures i) in
    moved_piece c.args.write_set.now c.store_indirect.new.write_set blocks (with_inode g image n new) tree n inode new
    c.sized-same.result offset piece
    (c.store_indirect.ensures.geometry ∙ c.take_block.ensures.geometry) (c.in-Ok-store_indirect.ensures.image blocks ∙ written)
    (subst (Shows c.store_indirect.new.write_set) written (c.in-Ok-store_indirect.ensures.shows middle seen))
    write.has.less write.has.regular c.sized-same.ensures
    (stored_indirect g base tree n inode offset piece bytes size write (b ∷ []) middle taken
    (λ q low. seen.long q (subst (λ (s : Geometry). q < s.blocks) (sym c.take_block.ensures.geometry) low))
    c.requires.len b inode.direct indirect_block inode.double indirect_block numbers
    (subst (λ (l : List ℕ). AreBytes l) (sym named)
    (named_are (content_in g base indirect_block) (4 * (offset / BLOCK_BYTES - DIRECT_INDEXES)) b
    (content_are g base tree write_set.holds indirect_block c.requires.indirect_block)))
    (ap (λ (l : List ℕ). length l) named
    ∙ named_count (content_in g base indirect_block) (offset / BLOCK_BYTES - DIRECT_INDEXES) b
    (long_content g base tree n inode write.has indirect_block)
    (let within = c.requires.within in let past = c.requires.past in omega (arith, at, within, past)))
    c.requires.indirect_block
    (subst (λ l. Fills g base inode offset piece b inode.direct indirect_block inode.double
    (put (put (content_in g base) indirect_block l) b bytes) (b ∷ [])) (sym named)
    (block_named_indirect g base tree n inode (as_mapped g base tree n inode write.has) offset piece write.fits b bytes
    taken.were_free.0 none
    write.bytes_are (subst (λ k. DIRECT_INDEXES ≤ k) at c.requires.past)
    (subst (λ k. k < FIRST_DOUBLE_INDEX) at c.requires.within) (not_zero g indirect_block c.requires.indirect_block))))

pub returns-in-Ok-None-clause-has_space : goal.returns-in-Ok-None-clause-has_space
returns-in-Ok-None-clause-has_space c = λ blocks tree write_set has_space.
    let g = c.args.write_set.now.there.geometry in
    let base = image_of blocks c.args.write_set.now in
    let full = rw c.in-Ok-None.field-0-is at
    (c.in-Ok-None.ensures.ok blocks base tree [] write_set.shows (none_taken g base tree write_set.holds)) in
    absurd (omega (arith, full, has_space))

pub returns-clause-resumable : goal.returns-clause-resumable
returns-clause-resumable c = λ blocks tree write_set less.
    let g = c.args.write_set.now.there.geometry in
    let base = image_of blocks c.args.write_set.now in
    c.in-Err-take_block.ensures.resumable blocks base tree [] write_set.shows (none_taken g base tree write_set.holds)

pub returns-in-Ok-store_indirect-clause-once : goal.returns-in-Ok-store_indirect-clause-once
returns-in-Ok-store_indirect-clause-once c =
    let taken = nothing_dirty c.args.write_set.now c.take_block.new.write_set c.args.number c.args.inode.now.indirect
    c.args.inode.now.double c.take_block.ensures.geometry c.take_block.ensures.stays c.take_block.ensures.dirty_count in
    let once = c.store_indirect.ensures.once c.args.inode.now.double in
    let same : ◌≡◌ {A = ℕ} (clean_count c.store_indirect.new.write_set c.args.number c.sized-same.result.indirect
    c.sized-same.result.double)
    (clean_count c.store_indirect.new.write_set c.args.number c.args.inode.now.indirect c.args.inode.now.double) =
    ap (λ (one : Inode). clean_count c.store_indirect.new.write_set c.args.number one.indirect one.double) c.sized-same.ensures in
    omega (arith, taken, once, same)

pub returns-in-Ok-Some-clause-once : goal.returns-in-Ok-Some-clause-once
returns-in-Ok-Some-clause-once c =
    let taken = nothing_dirty c.args.write_set.now c.take_block.new.write_set c.args.number c.args.inode.now.indirect
    c.args.inode.now.double c.take_block.ensures.geometry c.take_block.ensures.stays c.take_block.ensures.dirty_count in
    let once = c.store_indirect.ensures.once c.args.inode.now.double in
    let same : ◌≡◌ {A = ℕ} (clean_count c.store_indirect.new.write_set c.args.number c.sized-same.result.indirect
    c.sized-same.result.double)
    (clean_count c.store_indirect.new.write_set c.args.number c.args.inode.now.indirect c.args.inode.now.double) =
    ap (λ (one : Inode). clean_count c.store_indirect.new.write_set c.args.number one.indirect one.double) c.sized-same.ensures in
    omega (arith, taken, once, same)

pub returns-in-Ok-None-clause-once : goal.returns-in-Ok-None-clause-once
returns-in-Ok-None-clause-once c =
    let taken = nothing_dirty c.args.write_set.now c.take_block.new.write_set c.args.number c.args.inode.now.indirect
    c.args.inode.now.double c.take_block.ensures.geometry c.take_block.ensures.stays c.take_block.ensures.dirty_count in
    omega (arith, taken)

pub returns-clause-once : goal.returns-clause-once
returns-clause-once c =
    let taken = nothing_dirty c.args.write_set.now c.take_block.new.write_set c.args.number c.args.inode.now.indirect
    c.args.inode.now.double c.take_block.ensures.geometry c.take_block.ensures.stays c.take_block.ensures.dirty_count in
    omega (arith, taken)

pub returns-in_err-numbers-in-Ok-Some-clause-once : goal.returns-in_err-numbers-in-Ok-Some-clause-once
returns-in_err-numbers-in-Ok-Some-clause-once c =
    let taken = nothing_dirty c.args.write_set.now c.take_block.new.write_set c.args.number c.args.inode.now.indirect
    c.args.inode.now.double c.take_block.ensures.geometry c.take_block.ensures.stays c.take_block.ensures.dirty_count in
    omega (arith, taken)
