use Rattle.std.proofs.Common.{refl, ℕ, ◌≡◌, ◌≤◌, ◌<◌, ◌*◌, ◌-◌, ◌/◌, [], ◌∷◌, List}
use Rattle.std.proofs.Common.{length, replicate, sym, ap, ◌∙◌, subst}
use Rattle.std.proofs.Common.{arith}
use Rattle.base.specs.declared.TheConstants.{BLOCK_BYTES, DIRECT_INDEXES, FIRST_DOUBLE_INDEX}
use Rattle.nfs_types.specs.Fits.{AreBytes}
use Rattle.objects.specs.Spliced.{spliced}
use Rattle.layout.specs.declared.geometry.Geometry.{Geometry}
use Rattle.layout.specs.Fields.{four_bytes}
use Rattle.layout.specs.declared.inode.Inode.{Inode}
use Rattle.layout.specs.Parts.{content_in, put, with_bytes, with_inode}
use Rattle.inode.specs.WriteSets.WriteSetContents.{Shows, image_of}
use Rattle.bitmap.specs.NewBlock.{HasTaken}
use Rattle.bitmap.proofs.NewBlocks.{none_taken}
use Rattle.inode_data.specs.Filling.{Fills, mapping}
use Rattle.inode_data.specs.CleanCounts.{clean_count}
use Rattle.inode_data.proofs.Cases.{block_named_first}
use Rattle.inode_data.proofs.PointerNumbers.{named_count}
use Rattle.inode_data.proofs.MappedFile.{as_mapped}
use Rattle.inode_data.proofs.Once.{nothing_dirty, unspent_first}
use Rattle.inode_data.proofs.Whole.{moved_piece}
use Rattle.inode_data.proofs.Stored.{named_are, stored_indirect, zeros_are}
use Rattle.inode_data.proofs.mapped_blocks.map_first.Goals as goal

pub returns-in-Ok-None-clause-has_space : goal.returns-in-Ok-None-clause-has_space
returns-in-Ok-None-clause-has_space c = λ blocks tree write_set has_space.
    let g = c.args.write_set.now.there.geometry in
    let base = image_of blocks c.args.write_set.now in
    let full = rw c.in-Ok-None.field-0-is at
    (c.in-Ok-None.ensures.ok blocks base tree [] write_set.shows (none_taken g base tree write_set.holds)) in
    absurd (omega (arith, full, has_space))

pub returns-in-Err-clause-resumable : goal.returns-in-Err-clause-resumable
returns-in-Err-clause-resumable c = λ blocks tree write_set less.
    let g = c.args.write_set.now.there.geometry in
    let base = image_of blocks c.args.write_set.now in
    c.in-Err.ensures.resumable blocks base tree [] write_set.shows (none_taken g base tree write_set.holds)

pub returns-in-Ok-clause-ok : goal.returns-in-Ok-clause-ok
returns-in-Ok-clause-ok c =
    let g = c.args.write_set.now.there.geometry in
    let n = c.args.number in
    let inode = c.args.inode.now in
    let indirect_block = c.in-Ok-Some-take_block.indirect_block in
    let b = c.in-Ok-Some.block in
    let bytes = c.args.bytes.items in
    let numbers = c.in_ok-numbers-in-Ok-Some-take_block.numbers.items in
    let size = c.args.size in
    let geometry : c.take_block-2.new.write_set.there.geometry ≡ g =
    c.take_block-2.ensures.geometry ∙ c.take_block.ensures.geometry in
    λ done blocks tree offset piece write_set write at none.
    let base = image_of blocks c.args.write_set.now in
    let first = image_of blocks c.take_block.new.write_set in
    let middle = image_of blocks c.take_block-2.new.write_set in
    let new = mapping inode size inode.direct indirect_block inode.double in
    let one : HasTaken g base tree (b ∷ []) first =
    rw c.in-Ok-Some.field-0-is at
    (c.in-Ok-Some.ensures.ok blocks base tree [] write_set.shows (none_taken g base tree write_set.holds)) in
    let shown = c.in-Ok-Some.ensures.shows blocks write_set.shows in
    let taken : HasTaken g base tree (indirect_block ∷ b ∷ []) middle =
    subst (λ (s : Geometry). HasTaken s base tree (indirect_block ∷ b ∷ []) middle) c.take_block.ensures.geometry
    (rw c.in-Ok-Some-take_block.field-0-is at
    (c.in-Ok-Some-take_block.ensures.ok blocks base tree (b ∷ []) shown
    (subst (λ (s : Geometry). HasTaken s base tree (b ∷ []) first) (sym c.take_block.ensures.geometry) one))) in
    let seen = c.in-Ok-Some-take_block.ensures.shows blocks shown in
    let offsets_agree : 4 * (c.args.index - DIRECT_INDEXES) ≡ 4 * (offset / BLOCK_BYTES - DIRECT_INDEXES) =
    ap (λ k. 4 * (k - DIRECT_INDEXES)) at in
    let named : numbers ≡ spliced (replicate BLOCK_BYTES 0) (4 * (offset / BLOCK_BYTES - DIRECT_INDEXES)) (four_bytes
    b) =
    c.in_ok-numbers-in-Ok-Some-take_block.ensures.made ∙ (λ i. spliced (replicate BLOCK_BYTES 0) (offsets_agree i) (four_bytes
    b)) in
    let image = with_bytes (with_bytes middle indirect_block 0 numbers) b 0 bytes in
    let written : with_inode c.take_block-2.new.write_set.there.geometry image n c.with_indirect_block-repointed.result
    ≡ with_inode g image n new =
    λ i. with_inode (geometry i) image n (c.with_indirect_block-repointed.ensures i) in
    moved_piece c.args.write_set.now c.store_indirect.new.write_set blocks (with_inode g image n new) tree n inode new
    c.with_indirect_block-repointed.result offset piece
    (c.store_indirect.ensures.geometry ∙ geometry) (c.in-Ok.ensures.image blocks ∙ written)
    (subst (Shows c.store_indirect.new.write_set) written (c.in-Ok.ensures.shows middle seen))
    write.has.less write.has.regular c.with_indirect_block-repointed.ensures
    (stored_indirect g base tree n inode offset piece bytes size write (indirect_block ∷ b ∷ []) middle taken
    (λ q low. seen.long q (subst (λ (s : Geometry). q < s.blocks) (sym geometry) low))
    c.requires.len b inode.direct indirect_block inode.double indirect_block numbers
    (subst (λ (l : List ℕ). AreBytes l) (sym named)
    (named_are (replicate BLOCK_BYTES 0) (4 * (offset / BLOCK_BYTES - DIRECT_INDEXES)) b zeros_are))
    (ap (λ (l : List ℕ). length l) named
    ∙ named_count (replicate BLOCK_BYTES 0) (offset / BLOCK_BYTES - DIRECT_INDEXES) b refl
    (let within = c.requires.within in let past = c.requires.past in omega (arith, at, within, past)))
    taken.were_free.0.lies
    (subst (λ l. Fills g base inode offset piece b inode.direct indirect_block inode.double
    (put (put (content_in g base) indirect_block l) b bytes) (indirect_block ∷ b ∷ [])) (sym named)
    (block_named_first g base tree n inode (as_mapped g base tree n inode write.has) offset piece write.fits b bytes
    taken.were_free.1.0 none
    write.bytes_are (subst (λ k. DIRECT_INDEXES ≤ k) at c.requires.past)
    (subst (λ k. k < FIRST_DOUBLE_INDEX) at c.requires.within) c.requires.none indirect_block
    taken.were_free.0 taken.once)))

pub returns-in-Ok-None-take_block-clause-has_space : goal.returns-in-Ok-None-take_block-clause-has_space
returns-in-Ok-None-take_block-clause-has_space c = λ blocks tree write_set has_space.
    let g = c.args.write_set.now.there.geometry in
    let b = c.in-Ok-Some.block in
    let base = image_of blocks c.args.write_set.now in
    let first = image_of blocks c.take_block.new.write_set in
    let one : HasTaken g base tree (b ∷ []) first =
    rw c.in-Ok-Some.field-0-is at
    (c.in-Ok-Some.ensures.ok blocks base tree [] write_set.shows (none_taken g base tree write_set.holds)) in
    let full = rw c.in-Ok-None-take_block.field-0-is at
    (c.in-Ok-None-take_block.ensures.ok blocks base tree (b ∷ []) (c.in-Ok-Some.ensures.shows blocks write_set.shows)
    (subst (λ (s : Geometry). HasTaken s base tree (b ∷ []) first) (sym c.take_block.ensures.geometry) one)) in
    absurd (omega (arith, full, has_space))

pub returns-in-Err-take_block-clause-resumable : goal.returns-in-Err-take_block-clause-resumable
returns-in-Err-take_block-clause-resumable c = λ blocks tree write_set less.
    let g = c.args.write_set.now.there.geometry in
    let b = c.in-Ok-Some.block in
    let base = image_of blocks c.args.write_set.now in
    let first = image_of blocks c.take_block.new.write_set in
    let one : HasTaken g base tree (b ∷ []) first =
    rw c.in-Ok-Some.field-0-is at
    (c.in-Ok-Some.ensures.ok blocks base tree [] write_set.shows (none_taken g base tree write_set.holds)) in
    c.in-Err-take_block.ensures.resumable blocks base tree (b ∷ []) (c.in-Ok-Some.ensures.shows blocks write_set.shows)
    (subst (λ (s : Geometry). HasTaken s base tree (b ∷ []) first) (sym c.take_block.ensures.geometry) one)

pub returns-in-Ok-clause-once : goal.returns-in-Ok-clause-once
returns-in-Ok-clause-once c =
    let first = nothing_dirty c.args.write_set.now c.take_block.new.write_set c.args.number c.args.inode.now.indirect
    c.args.inode.now.double c.take_block.ensures.geometry c.take_block.ensures.stays c.take_block.ensures.dirty_count in
    let second = nothing_dirty c.take_block.new.write_set c.take_block-2.new.write_set c.args.number c.args.inode.now.indirect
    c.args.inode.now.double c.take_block-2.ensures.geometry c.take_block-2.ensures.stays c.take_block-2.ensures.dirty_count in
    let indirect_block = c.in-Ok-Some-take_block.indirect_block in
    let new = unspent_first c.take_block-2.new.write_set c.args.number indirect_block c.args.inode.now.indirect
    c.args.inode.now.double c.requires.none in
    let once = c.store_indirect.ensures.once c.args.inode.now.double in
    let same : ◌≡◌ {A = ℕ} (clean_count c.store_indirect.new.write_set c.args.number c.with_indirect_block-repointed.result.indirect
    c.with_indirect_block-repointed.result.double)
    (clean_count c.store_indirect.new.write_set c.args.number indirect_block c.args.inode.now.double) =
    ap (λ (one : Inode). clean_count c.store_indirect.new.write_set c.args.number one.indirect one.double) c.with_indirect_block-repointed.ensures in
    omega (arith, first, second, new, once, same)

pub returns-in-Err-store_indirect-clause-once : goal.returns-in-Err-store_indirect-clause-once
returns-in-Err-store_indirect-clause-once c =
    let first = nothing_dirty c.args.write_set.now c.take_block.new.write_set c.args.number c.args.inode.now.indirect
    c.args.inode.now.double c.take_block.ensures.geometry c.take_block.ensures.stays c.take_block.ensures.dirty_count in
    let second = nothing_dirty c.take_block.new.write_set c.take_block-2.new.write_set c.args.number c.args.inode.now.indirect
    c.args.inode.now.double c.take_block-2.ensures.geometry c.take_block-2.ensures.stays c.take_block-2.ensures.dirty_count in
    let indirect_block = c.in-Ok-Some-take_block.indirect_block in
    let new = unspent_first c.take_block-2.new.write_set c.args.number indirect_block c.args.inode.now.indirect
    c.args.inode.now.double c.requires.none in
    let once = c.store_indirect.ensures.once c.args.inode.now.double in
    let same : ◌≡◌ {A = ℕ} (clean_count c.store_indirect.new.write_set c.args.number c.with_indirect_block-repointed.result.indirect
    c.with_indirect_block-repointed.result.double)
    (clean_count c.store_indirect.new.write_set c.args.number indirect_block c.args.inode.now.double) =
    ap (λ (one : Inode). clean_count c.store_indirect.new.write_set c.args.number one.indirect one.double) c.with_indirect_block-repointed.ensures in
    omega (arith, first, second, new, once, same)

pub returns-in-Ok-None-clause-once : goal.returns-in-Ok-None-clause-once
returns-in-Ok-None-clause-once c =
    let first = nothing_dirty c.args.write_set.now c.take_block.new.write_set c.args.number c.args.inode.now.indirect
    c.args.inode.now.double c.take_block.ensures.geometry c.take_block.ensures.stays c.take_block.ensures.dirty_count in
    omega (arith, first)

pub returns-in-Err-clause-once : goal.returns-in-Err-clause-once
returns-in-Err-clause-once c =
    let first = nothing_dirty c.args.write_set.now c.take_block.new.write_set c.args.number c.args.inode.now.indirect
    c.args.inode.now.double c.take_block.ensures.geometry c.take_block.ensures.stays c.take_block.ensures.dirty_count in
    omega (arith, first)

pub returns-in-Ok-None-take_block-clause-once : goal.returns-in-Ok-None-take_block-clause-once
returns-in-Ok-None-take_block-clause-once c =
    let first = nothing_dirty c.args.write_set.now c.take_block.new.write_set c.args.number c.args.inode.now.indirect
    c.args.inode.now.double c.take_block.ensures.geometry c.take_block.ensures.stays c.take_block.ensures.dirty_count in
    let second = nothing_dirty c.take_block.new.write_set c.take_block-2.new.write_set c.args.number c.args.inode.now.indirect
    c.args.inode.now.double c.take_block-2.ensures.geometry c.take_block-2.ensures.stays c.take_block-2.ensures.dirty_count in
    omega (arith, first, second)

pub returns-in-Err-take_block-clause-once : goal.returns-in-Err-take_block-clause-once
returns-in-Err-take_block-clause-once c =
    let first = nothing_dirty c.args.write_set.now c.take_block.new.write_set c.args.number c.args.inode.now.indirect
    c.args.inode.now.double c.take_block.ensures.geometry c.take_block.ensures.stays c.take_block.ensures.dirty_count in
    let second = nothing_dirty c.take_block.new.write_set c.take_block-2.new.write_set c.args.number c.args.inode.now.indirect
    c.args.inode.now.double c.take_block-2.ensures.geometry c.take_block-2.ensures.stays c.take_block-2.ensures.dirty_count in
    omega (arith, first, second)

pub returns-in_err-numbers-in-Ok-Some-take_block-clause-once :
    goal.returns-in_err-numbers-in-Ok-Some-take_block-clause-once
returns-in_err-numbers-in-Ok-Some-take_block-clause-once c =
    let first = nothing_dirty c.args.write_set.now c.take_block.new.write_set c.args.number c.args.inode.now.indirect
    c.args.inode.now.double c.take_block.ensures.geometry c.take_block.ensures.stays c.take_block.ensures.dirty_count in
    let second = nothing_dirty c.take_block.new.write_set c.take_block-2.new.write_set c.args.number c.args.inode.now.indirect
    c.args.inode.now.double c.take_block-2.ensures.geometry c.take_block-2.ensures.stays c.take_block-2.ensures.dirty_count in
    omega (arith, first, second)
