use Rattle.std.proofs.Common.{◌≡◌, ℕ, ◌<◌, ◌/◌, [], ◌∷◌, sym, ap, ◌∙◌, subst, set, arith}
use Rattle.base.specs.declared.TheConstants.{BLOCK_BYTES, DIRECT_INDEXES}
use Rattle.layout.specs.declared.geometry.Geometry.{Geometry}
use Rattle.layout.specs.declared.inode.Inode.{Inode}
use Rattle.layout.specs.Parts.{with_bytes, with_inode}
use Rattle.inode.specs.WriteSets.WriteSetContents.{Shows, image_of}
use Rattle.bitmap.specs.NewBlock.{HasTaken}
use Rattle.bitmap.proofs.NewBlocks.{none_taken}
use Rattle.inode_data.specs.Filling.{mapping}
use Rattle.inode_data.specs.CleanCounts.{clean_count}
use Rattle.inode_data.proofs.Cases.{block_named}
use Rattle.inode_data.proofs.Stored.{stored}
use Rattle.inode_data.proofs.MappedFile.{as_mapped}
use Rattle.inode_data.proofs.Once.{nothing_dirty}
use Rattle.inode_data.proofs.Whole.{moved_piece}
use Rattle.inode_data.proofs.mapped_blocks.map_direct.Goals as goal

pub returns-in-Ok-clause-ok : goal.returns-in-Ok-clause-ok
returns-in-Ok-clause-ok c =
    let g = c.args.write_set.now.there.geometry in
    let n = c.args.number in
    let inode = c.args.inode.now in
    let b = c.in-Ok-Some.block in
    let bytes = c.args.bytes.items in
    let size = c.args.size in
    λ done blocks tree offset piece write_set write at none.
    let base = image_of blocks c.args.write_set.now in
    let middle = image_of blocks c.take_block.new.write_set in
    let direct = set inode.direct (offset / BLOCK_BYTES) b in
    let new = mapping inode size direct inode.indirect inode.double in
    let taken : HasTaken g base tree (b ∷ []) middle =
    rw c.in-Ok-Some.field-0-is at
    (c.in-Ok-Some.ensures.ok blocks base tree [] write_set.shows (none_taken g base tree write_set.holds)) in
    let seen = c.in-Ok-Some.ensures.shows blocks write_set.shows in
    let named : c.naming-named.result ≡ new =
    c.naming-named.ensures ∙ ap (λ k. mapping inode size (set inode.direct k b) inode.indirect inode.double) at in
    let written : with_inode c.take_block.new.write_set.there.geometry (with_bytes middle b 0 bytes) n c.naming-named.result
    ≡ with_inode g (with_bytes middle b 0 bytes) n new =
    λ i. with_inode (c.take_block.ensures.geometry i) (with_bytes middle b 0 bytes) n (named i) in
    moved_piece c.args.write_set.now c.store.new.write_set blocks (with_inode g (with_bytes middle b 0 bytes) n new) tree n
    inode new c.naming-named.result offset piece
    (c.store.ensures.geometry ∙ c.take_block.ensures.geometry) (c.in-Ok.ensures.image blocks ∙ written)
    (subst (Shows c.store.new.write_set) written (c.in-Ok.ensures.shows middle seen))
    write.has.less write.has.regular named
    (stored g base tree n inode offset piece bytes size write (b ∷ []) middle taken
    (λ q low. seen.long q (subst (λ (s : Geometry). q < s.blocks) (sym c.take_block.ensures.geometry) low))
    c.requires.len b direct inode.indirect inode.double
    (block_named g base tree n inode (as_mapped g base tree n inode write.has) offset piece write.fits b bytes
    taken.were_free.0 none
    write.bytes_are (subst (λ k. k < DIRECT_INDEXES) at c.requires.direct_part)))

pub returns-in-Ok-None-clause-has_space : goal.returns-in-Ok-None-clause-has_space
returns-in-Ok-None-clause-has_space c = λ blocks tree write_set has_space.
    let g = c.args.write_set.now.there.geometry in
    let base = image_of blocks c.args.write_set.now in
    let full = rw c.in-Ok-None.field-0-is at
    (c.in-Ok-None.ensures.ok blocks base tree [] write_set.shows (none_taken g base tree write_set.holds)) in
    absurd (omega (arith, full, has_space))

pub returns-in-Err-clause-resumable : goal.returns-in-Err-clause-resumable
returns-in-Err-clause-resumable c = λ blocks tree write_set less.
    let g = c.args.write_set.now.there.geometry in
    let base = image_of blocks c.args.write_set.now in
    c.in-Err.ensures.resumable blocks base tree [] write_set.shows (none_taken g base tree write_set.holds)

pub returns-in-Ok-clause-once : goal.returns-in-Ok-clause-once
returns-in-Ok-clause-once c =
    let taken = nothing_dirty c.args.write_set.now c.take_block.new.write_set c.args.number c.args.inode.now.indirect
    c.args.inode.now.double c.take_block.ensures.geometry c.take_block.ensures.stays c.take_block.ensures.dirty_count in
    let once = c.store.ensures.once c.args.inode.now.indirect c.args.inode.now.double in
    let same : ◌≡◌ {A = ℕ} (clean_count c.store.new.write_set c.args.number c.naming-named.result.indirect
    c.naming-named.result.double)
    (clean_count c.store.new.write_set c.args.number c.args.inode.now.indirect c.args.inode.now.double) =
    ap (λ (one : Inode). clean_count c.store.new.write_set c.args.number one.indirect one.double) c.naming-named.ensures in
    omega (arith, taken, once, same)

pub returns-in-Err-store-clause-once : goal.returns-in-Err-store-clause-once
returns-in-Err-store-clause-once c =
    let taken = nothing_dirty c.args.write_set.now c.take_block.new.write_set c.args.number c.args.inode.now.indirect
    c.args.inode.now.double c.take_block.ensures.geometry c.take_block.ensures.stays c.take_block.ensures.dirty_count in
    let once = c.store.ensures.once c.args.inode.now.indirect c.args.inode.now.double in
    let same : ◌≡◌ {A = ℕ} (clean_count c.store.new.write_set c.args.number c.naming-named.result.indirect
    c.naming-named.result.double)
    (clean_count c.store.new.write_set c.args.number c.args.inode.now.indirect c.args.inode.now.double) =
    ap (λ (one : Inode). clean_count c.store.new.write_set c.args.number one.indirect one.double) c.naming-named.ensures in
    omega (arith, taken, once, same)

pub returns-in-Ok-None-clause-once : goal.returns-in-Ok-None-clause-once
returns-in-Ok-None-clause-once c =
    let taken = nothing_dirty c.args.write_set.now c.take_block.new.write_set c.args.number c.args.inode.now.indirect
    c.args.inode.now.double c.take_block.ensures.geometry c.take_block.ensures.stays c.take_block.ensures.dirty_count in
    omega (arith, taken)

pub returns-in-Err-clause-once : goal.returns-in-Err-clause-once
returns-in-Err-clause-once c =
    let taken = nothing_dirty c.args.write_set.now c.take_block.new.write_set c.args.number c.args.inode.now.indirect
    c.args.inode.now.double c.take_block.ensures.geometry c.take_block.ensures.stays c.take_block.ensures.dirty_count in
    omega (arith, taken)
