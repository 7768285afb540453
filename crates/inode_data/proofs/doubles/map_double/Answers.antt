use Rattle.std.proofs.Common.{refl, ℕ, ◌≡◌, ◌≤◌, ◌<◌, ◌*◌, ◌/◌, nat_eq, [], ◌∷◌, List, length, replicate, sym, ap}
use Rattle.std.proofs.Common.{◌∙◌, subst, arith}
use Rattle.base.specs.declared.TheConstants.{BLOCK_BYTES, FIRST_DOUBLE_INDEX, INDIRECT_INDEXES}
use Rattle.nfs_types.specs.Fits.{AreBytes}
use Rattle.objects.specs.Spliced.{spliced}
use Rattle.layout.specs.declared.geometry.Geometry.{Geometry}
use Rattle.layout.specs.Fields.{four_bytes}
use Rattle.layout.specs.declared.inode.Inode.{Inode}
use Rattle.layout.specs.Parts.{content_in, put, with_bytes, with_inode}
use Rattle.layout.proofs.NumbersIn.{none_at}
use Rattle.inode.specs.WriteSets.WriteSetContents.{Shows, image_of}
use Rattle.bitmap.specs.NewBlock.{HasTaken}
use Rattle.bitmap.proofs.NewBlocks.{none_taken}
use Rattle.inode_data.specs.Filling.{Fills, mapping}
use Rattle.inode_data.specs.Inner.{inner_of, index_in_inner}
use Rattle.inode_data.specs.CleanCounts.{clean_count}
use Rattle.inode_data.proofs.DoubleCases.{block_named_double}
use Rattle.inode_data.proofs.PointerNumbers.{named_count}
use Rattle.inode_data.proofs.MappedFile.{as_mapped}
use Rattle.inode_data.proofs.Once.{nothing_dirty, unspent_double}
use Rattle.inode_data.proofs.Stored.{named_are, stored_double, zeros_are}
use Rattle.inode_data.proofs.Whole.{moved_piece}
use Rattle.inode_data.proofs.doubles.map_double.Goals as goal

pub returns-in-Ok-clause-ok : goal.returns-in-Ok-clause-ok
returns-in-Ok-clause-ok c =
    let g = c.args.write_set.now.there.geometry in
    let n = c.args.number in
    let inode = c.args.inode.now in
    let double = c.in-Ok-Some-take_block-2.double in
    let inner = c.in-Ok-Some-take_block.inner in
    let b = c.in-Ok-Some.block in
    let bytes = c.args.bytes.items in
    let numbers = c.in_ok-numbers-in-Ok-Some-take_block-2.numbers.items in
    let inners = c.in_ok-inners-in-Ok-Some-take_block-2.inners.items in
    let size = c.args.size in
    let early : c.take_block-2.new.write_set.there.geometry ≡ g =
    c.take_block-2.ensures.geometry ∙ c.take_block.ensures.geometry in
    let geometry : c.take_block-3.new.write_set.there.geometry ≡ g = c.take_block-3.ensures.geometry ∙ early in
    λ done blocks tree offset piece write_set write at none.
    let base = image_of blocks c.args.write_set.now in
    let first = image_of blocks c.take_block.new.write_set in
    let second = image_of blocks c.take_block-2.new.write_set in
    let middle = image_of blocks c.take_block-3.new.write_set in
    let index = offset / BLOCK_BYTES in
    let new = mapping inode size inode.direct inode.indirect double in
    let one : HasTaken g base tree (b ∷ []) first =
    rw c.in-Ok-Some.field-0-is at
    (c.in-Ok-Some.ensures.ok blocks base tree [] write_set.shows (none_taken g base tree write_set.holds)) in
    let shown = c.in-Ok-Some.ensures.shows blocks write_set.shows in
    let two : HasTaken g base tree (inner ∷ b ∷ []) second =
    subst (λ (s : Geometry). HasTaken s base tree (inner ∷ b ∷ []) second) c.take_block.ensures.geometry
    (rw c.in-Ok-Some-take_block.field-0-is at
    (c.in-Ok-Some-take_block.ensures.ok blocks base tree (b ∷ []) shown
    (subst (λ (s : Geometry). HasTaken s base tree (b ∷ []) first) (sym c.take_block.ensures.geometry) one))) in
    let shown_two = c.in-Ok-Some-take_block.ensures.shows blocks shown in
    let taken : HasTaken g base tree (double ∷ inner ∷ b ∷ []) middle =
    subst (λ (s : Geometry). HasTaken s base tree (double ∷ inner ∷ b ∷ []) middle) early
    (rw c.in-Ok-Some-take_block-2.field-0-is at
    (c.in-Ok-Some-take_block-2.ensures.ok blocks base tree (inner ∷ b ∷ []) shown_two
    (subst (λ (s : Geometry). HasTaken s base tree (inner ∷ b ∷ []) second) (sym early) two))) in
    let seen = c.in-Ok-Some-take_block-2.ensures.shows blocks shown_two in
    let offsets_agree : 4 * c.index_in_inner.result ≡ 4 * index_in_inner index = ap (λ k. 4 * k) (c.index_in_inner.ensures.is ∙ ap index_in_inner at) in
    let row : 4 * c.inner_of.result ≡ 4 * inner_of index = ap (λ k. 4 * k) (c.inner_of.ensures.is ∙ ap inner_of at) in
    let named : numbers ≡ spliced (replicate BLOCK_BYTES 0) (4 * index_in_inner index) (four_bytes b) =
    c.in_ok-numbers-in-Ok-Some-take_block-2.ensures.made ∙ (λ i. spliced (replicate BLOCK_BYTES 0) (offsets_agree i)
    (four_bytes b)) in
    let repointed : inners ≡ spliced (replicate BLOCK_BYTES 0) (4 * inner_of index) (four_bytes inner) =
    c.in_ok-inners-in-Ok-Some-take_block-2.ensures.made ∙ (λ i. spliced (replicate BLOCK_BYTES 0) (row i) (four_bytes
    inner)) in
    let low : inner_of index < INDIRECT_INDEXES =
    (let past = c.requires.past in let within = c.requires.within in omega (arith, at, past, within)) in
    let image = with_bytes (with_bytes (with_bytes middle double 0 inners) inner 0 numbers) b 0 bytes in
    let written : with_inode c.take_block-3.new.write_set.there.geometry image n c.with_double_block-repointed.result
    ≡ with_inode g image n new =
    λ i. with_inode (geometry i) image n (c.with_double_block-repointed.ensures i) in
    moved_piece c.args.write_set.now c.store_double.new.write_set blocks (with_inode g image n new) tree n inode new
    c.with_double_block-repointed.result offset piece
    (c.store_double.ensures.geometry ∙ geometry) (c.in-Ok.ensures.image blocks ∙ written)
    (subst (Shows c.store_double.new.write_set) written (c.in-Ok.ensures.shows middle seen))
    write.has.less write.has.regular c.with_double_block-repointed.ensures
    (stored_double g base tree n inode offset piece bytes size write (double ∷ inner ∷ b ∷ []) middle taken
    (λ q low. seen.long q (subst (λ (s : Geometry). q < s.blocks) (sym geometry) low))
    c.requires.len b inode.direct inode.indirect double
    double inners
    (subst (λ (l : List ℕ). AreBytes l) (sym repointed)
    (named_are (replicate BLOCK_BYTES 0) (4 * inner_of index) inner zeros_are))
    (ap (λ (l : List ℕ). length l) repointed
    ∙ named_count (replicate BLOCK_BYTES 0) (inner_of index) inner refl low)
    taken.were_free.0.lies
    inner numbers
    (subst (λ (l : List ℕ). AreBytes l) (sym named)
    (named_are (replicate BLOCK_BYTES 0) (4 * index_in_inner index) b zeros_are))
    (ap (λ (l : List ℕ). length l) named ∙ named_count (replicate BLOCK_BYTES 0) (index_in_inner index) b refl (omega arith))
    taken.were_free.1.0.lies
    (subst (λ l. Fills g base inode offset piece b inode.direct inode.indirect double
    (put (put (put (content_in g base) double l) inner numbers) b bytes) (double ∷ inner ∷ b ∷ [])) (sym repointed)
    (subst (λ l. Fills g base inode offset piece b inode.direct inode.indirect double
    (put (put (put (content_in g base) double (spliced (replicate BLOCK_BYTES 0) (4 * inner_of index) (four_bytes
    inner)))
    inner l) b bytes) (double ∷ inner ∷ b ∷ [])) (sym named)
    (block_named_double g base tree n inode (as_mapped g base tree n inode write.has) offset piece write.fits b bytes
    taken.were_free.1.1.0 none write.bytes_are (subst (λ k. FIRST_DOUBLE_INDEX ≤ k) at c.requires.past)
    (ap (λ k. nat_eq k 0) (none_at (content_in g base) inode.double c.requires.none (inner_of index))) inner
    taken.were_free.1.0 c.requires.none write.has.newest double taken.were_free.0 taken.once))))

pub returns-in-Ok-clause-twice : goal.returns-in-Ok-clause-twice
returns-in-Ok-clause-twice c =
    let n = c.args.number in
    let indirect_block = c.args.inode.now.indirect in
    let was = c.args.inode.now.double in
    let double = c.in-Ok-Some-take_block-2.double in
    let first = nothing_dirty c.args.write_set.now c.take_block.new.write_set n indirect_block was
    c.take_block.ensures.geometry c.take_block.ensures.stays c.take_block.ensures.dirty_count in
    let second = nothing_dirty c.take_block.new.write_set c.take_block-2.new.write_set n indirect_block was
    c.take_block-2.ensures.geometry c.take_block-2.ensures.stays c.take_block-2.ensures.dirty_count in
    let third = nothing_dirty c.take_block-2.new.write_set c.take_block-3.new.write_set n indirect_block was
    c.take_block-3.ensures.geometry c.take_block-3.ensures.stays c.take_block-3.ensures.dirty_count in
    let new = unspent_double c.take_block-3.new.write_set n indirect_block double was c.requires.none in
    let once = c.store_double.ensures.once indirect_block in
    let same : ◌≡◌ {A = ℕ}
    (clean_count c.store_double.new.write_set n c.with_double_block-repointed.result.indirect c.with_double_block-repointed.result.double)
    (clean_count c.store_double.new.write_set n indirect_block double) =
    ap (λ (one : Inode). clean_count c.store_double.new.write_set n one.indirect one.double) c.with_double_block-repointed.ensures in
    omega (arith, first, second, third, new, once, same)

pub returns-in-Err-store_double-clause-twice : goal.returns-in-Err-store_double-clause-twice
returns-in-Err-store_double-clause-twice c =
    let n = c.args.number in
    let indirect_block = c.args.inode.now.indirect in
    let was = c.args.inode.now.double in
    let double = c.in-Ok-Some-take_block-2.double in
    let first = nothing_dirty c.args.write_set.now c.take_block.new.write_set n indirect_block was
    c.take_block.ensures.geometry c.take_block.ensures.stays c.take_block.ensures.dirty_count in
    let second = nothing_dirty c.take_block.new.write_set c.take_block-2.new.write_set n indirect_block was
    c.take_block-2.ensures.geometry c.take_block-2.ensures.stays c.take_block-2.ensures.dirty_count in
    let third = nothing_dirty c.take_block-2.new.write_set c.take_block-3.new.write_set n indirect_block was
    c.take_block-3.ensures.geometry c.take_block-3.ensures.stays c.take_block-3.ensures.dirty_count in
    let new = unspent_double c.take_block-3.new.write_set n indirect_block double was c.requires.none in
    let once = c.store_double.ensures.once indirect_block in
    let same : ◌≡◌ {A = ℕ}
    (clean_count c.store_double.new.write_set n c.with_double_block-repointed.result.indirect c.with_double_block-repointed.result.double)
    (clean_count c.store_double.new.write_set n indirect_block double) =
    ap (λ (one : Inode). clean_count c.store_double.new.write_set n one.indirect one.double) c.with_double_block-repointed.ensures in
    omega (arith, first, second, third, new, once, same)

pub returns-in-Ok-None-clause-twice : goal.returns-in-Ok-None-clause-twice
returns-in-Ok-None-clause-twice c =
    let n = c.args.number in
    let indirect_block = c.args.inode.now.indirect in
    let was = c.args.inode.now.double in
    let first = nothing_dirty c.args.write_set.now c.take_block.new.write_set n indirect_block was
    c.take_block.ensures.geometry c.take_block.ensures.stays c.take_block.ensures.dirty_count in
    omega (arith, first)

pub returns-in-Err-clause-twice : goal.returns-in-Err-clause-twice
returns-in-Err-clause-twice c =
    let n = c.args.number in
    let indirect_block = c.args.inode.now.indirect in
    let was = c.args.inode.now.double in
    let first = nothing_dirty c.args.write_set.now c.take_block.new.write_set n indirect_block was
    c.take_block.ensures.geometry c.take_block.ensures.stays c.take_block.ensures.dirty_count in
    omega (arith, first)

pub returns-in-Ok-None-take_block-clause-twice : goal.returns-in-Ok-None-take_block-clause-twice
returns-in-Ok-None-take_block-clause-twice c =
    let n = c.args.number in
    let indirect_block = c.args.inode.now.indirect in
    let was = c.args.inode.now.double in
    let first = nothing_dirty c.args.write_set.now c.take_block.new.write_set n indirect_block was
    c.take_block.ensures.geometry c.take_block.ensures.stays c.take_block.ensures.dirty_count in
    let second = nothing_dirty c.take_block.new.write_set c.take_block-2.new.write_set n indirect_block was
    c.take_block-2.ensures.geometry c.take_block-2.ensures.stays c.take_block-2.ensures.dirty_count in
    omega (arith, first, second)

pub returns-in-Err-take_block-clause-twice : goal.returns-in-Err-take_block-clause-twice
returns-in-Err-take_block-clause-twice c =
    let n = c.args.number in
    let indirect_block = c.args.inode.now.indirect in
    let was = c.args.inode.now.double in
    let first = nothing_dirty c.args.write_set.now c.take_block.new.write_set n indirect_block was
    c.take_block.ensures.geometry c.take_block.ensures.stays c.take_block.ensures.dirty_count in
    let second = nothing_dirty c.take_block.new.write_set c.take_block-2.new.write_set n indirect_block was
    c.take_block-2.ensures.geometry c.take_block-2.ensures.stays c.take_block-2.ensures.dirty_count in
    omega (arith, first, second)

pub returns-in-Ok-None-take_block-2-clause-twice : goal.returns-in-Ok-None-take_block-2-clause-twice
returns-in-Ok-None-take_block-2-clause-twice c =
    let n = c.args.number in
    let indirect_block = c.args.inode.now.indirect in
    let was = c.args.inode.now.double in
    let first = nothing_dirty c.args.write_set.now c.take_block.new.write_set n indirect_block was
    c.take_block.ensures.geometry c.take_block.ensures.stays c.take_block.ensures.dirty_count in
    let second = nothing_dirty c.take_block.new.write_set c.take_block-2.new.write_set n indirect_block was
    c.take_block-2.ensures.geometry c.take_block-2.ensures.stays c.take_block-2.ensures.dirty_count in
    let third = nothing_dirty c.take_block-2.new.write_set c.take_block-3.new.write_set n indirect_block was
    c.take_block-3.ensures.geometry c.take_block-3.ensures.stays c.take_block-3.ensures.dirty_count in
    omega (arith, first, second, third)

pub returns-in-Err-take_block-2-clause-twice : goal.returns-in-Err-take_block-2-clause-twice
returns-in-Err-take_block-2-clause-twice c =
    let n = c.args.number in
    let indirect_block = c.args.inode.now.indirect in
    let was = c.args.inode.now.double in
    let first = nothing_dirty c.args.write_set.now c.take_block.new.write_set n indirect_block was
    c.take_block.ensures.geometry c.take_block.ensures.stays c.take_block.ensures.dirty_count in
    let second = nothing_dirty c.take_block.new.write_set c.take_block-2.new.write_set n indirect_block was
    c.take_block-2.ensures.geometry c.take_block-2.ensures.stays c.take_block-2.ensures.dirty_count in
    let third = nothing_dirty c.take_block-2.new.write_set c.take_block-3.new.write_set n indirect_block was
    c.take_block-3.ensures.geometry c.take_block-3.ensures.stays c.take_block-3.ensures.dirty_count in
    omega (arith, first, second, third)

pub returns-in_err-numbers-in-Ok-Some-take_block-2-clause-twice :
    goal.returns-in_err-numbers-in-Ok-Some-take_block-2-clause-twice
returns-in_err-numbers-in-Ok-Some-take_block-2-clause-twice c =
    let n = c.args.number in
    let indirect_block = c.args.inode.now.indirect in
    let was = c.args.inode.now.double in
    let first = nothing_dirty c.args.write_set.now c.take_block.new.write_set n indirect_block was
    c.take_block.ensures.geometry c.take_block.ensures.stays c.take_block.ensures.dirty_count in
    let second = nothing_dirty c.take_block.new.write_set c.take_block-2.new.write_set n indirect_block was
    c.take_block-2.ensures.geometry c.take_block-2.ensures.stays c.take_block-2.ensures.dirty_count in
    let third = nothing_dirty c.take_block-2.new.write_set c.take_block-3.new.write_set n indirect_block was
    c.take_block-3.ensures.geometry c.take_block-3.ensures.stays c.take_block-3.ensures.dirty_count in
    omega (arith, first, second, third)

pub returns-in_err-inners-in-Ok-Some-take_block-2-clause-twice :
    goal.returns-in_err-inners-in-Ok-Some-take_block-2-clause-twice
returns-in_err-inners-in-Ok-Some-take_block-2-clause-twice c =
    let n = c.args.number in
    let indirect_block = c.args.inode.now.indirect in
    let was = c.args.inode.now.double in
    let first = nothing_dirty c.args.write_set.now c.take_block.new.write_set n indirect_block was
    c.take_block.ensures.geometry c.take_block.ensures.stays c.take_block.ensures.dirty_count in
    let second = nothing_dirty c.take_block.new.write_set c.take_block-2.new.write_set n indirect_block was
    c.take_block-2.ensures.geometry c.take_block-2.ensures.stays c.take_block-2.ensures.dirty_count in
    let third = nothing_dirty c.take_block-2.new.write_set c.take_block-3.new.write_set n indirect_block was
    c.take_block-3.ensures.geometry c.take_block-3.ensures.stays c.take_block-3.ensures.dirty_count in
    omega (arith, first, second, third)

pub returns-in-Ok-None-clause-has_space : goal.returns-in-Ok-None-clause-has_space
returns-in-Ok-None-clause-has_space c = λ blocks tree write_set has_space.
    let g = c.args.write_set.now.there.geometry in
    let base = image_of blocks c.args.write_set.now in
    let full = rw c.in-Ok-None.field-0-is at
    (c.in-Ok-None.ensures.ok blocks base tree [] write_set.shows (none_taken g base tree write_set.holds)) in
    absurd (omega (arith, full, has_space))

pub returns-in-Ok-None-take_block-clause-has_space : goal.returns-in-Ok-None-take_block-clause-has_space
returns-in-Ok-None-take_block-clause-has_space c = λ blocks tree write_set has_space.
    let g = c.args.write_set.now.there.geometry in
    let base = image_of blocks c.args.write_set.now in
    let b = c.in-Ok-Some.block in
    let first = image_of blocks c.take_block.new.write_set in
    let taken : HasTaken c.take_block.new.write_set.there.geometry base tree (b ∷ []) first =
    subst (λ (s : Geometry). HasTaken s base tree (b ∷ []) first) (sym c.take_block.ensures.geometry)
    (rw c.in-Ok-Some.field-0-is at
    (c.in-Ok-Some.ensures.ok blocks base tree [] write_set.shows (none_taken g base tree write_set.holds))) in
    let shown = c.in-Ok-Some.ensures.shows blocks write_set.shows in
    let full = rw c.in-Ok-None-take_block.field-0-is at
    (c.in-Ok-None-take_block.ensures.ok blocks base tree (b ∷ []) shown taken) in
    absurd (omega (arith, full, has_space))

pub returns-in-Ok-None-take_block-2-clause-has_space : goal.returns-in-Ok-None-take_block-2-clause-has_space
returns-in-Ok-None-take_block-2-clause-has_space c = λ blocks tree write_set has_space.
    let g = c.args.write_set.now.there.geometry in
    let base = image_of blocks c.args.write_set.now in
    let b = c.in-Ok-Some.block in
    let first = image_of blocks c.take_block.new.write_set in
    let taken : HasTaken c.take_block.new.write_set.there.geometry base tree (b ∷ []) first =
    subst (λ (s : Geometry). HasTaken s base tree (b ∷ []) first) (sym c.take_block.ensures.geometry)
    (rw c.in-Ok-Some.field-0-is at
    (c.in-Ok-Some.ensures.ok blocks base tree [] write_set.shows (none_taken g base tree write_set.holds))) in
    let shown = c.in-Ok-Some.ensures.shows blocks write_set.shows in
    let inner = c.in-Ok-Some-take_block.inner in
    let second = image_of blocks c.take_block-2.new.write_set in
    let taken_two : HasTaken c.take_block-2.new.write_set.there.geometry base tree (inner ∷ b ∷ []) second =
    subst (λ (s : Geometry). HasTaken s base tree (inner ∷ b ∷ []) second) (sym c.take_block-2.ensures.geometry)
    (rw c.in-Ok-Some-take_block.field-0-is at
    (c.in-Ok-Some-take_block.ensures.ok blocks base tree (b ∷ []) shown taken)) in
    let shown_two = c.in-Ok-Some-take_block.ensures.shows blocks shown in
    let full = rw c.in-Ok-None-take_block-2.field-0-is at
    (c.in-Ok-None-take_block-2.ensures.ok blocks base tree (inner ∷ b ∷ []) shown_two taken_two) in
    absurd (omega (arith, full, has_space))

pub returns-in-Err-clause-resumable : goal.returns-in-Err-clause-resumable
returns-in-Err-clause-resumable c = λ blocks tree write_set less.
    let g = c.args.write_set.now.there.geometry in
    let base = image_of blocks c.args.write_set.now in
    c.in-Err.ensures.resumable blocks base tree [] write_set.shows (none_taken g base tree write_set.holds)

pub returns-in-Err-take_block-clause-resumable : goal.returns-in-Err-take_block-clause-resumable
returns-in-Err-take_block-clause-resumable c = λ blocks tree write_set less.
    let g = c.args.write_set.now.there.geometry in
    let base = image_of blocks c.args.write_set.now in
    let b = c.in-Ok-Some.block in
    let first = image_of blocks c.take_block.new.write_set in
    let taken : HasTaken c.take_block.new.write_set.there.geometry base tree (b ∷ []) first =
    subst (λ (s : Geometry). HasTaken s base tree (b ∷ []) first) (sym c.take_block.ensures.geometry)
    (rw c.in-Ok-Some.field-0-is at
    (c.in-Ok-Some.ensures.ok blocks base tree [] write_set.shows (none_taken g base tree write_set.holds))) in
    let shown = c.in-Ok-Some.ensures.shows blocks write_set.shows in
    c.in-Err-take_block.ensures.resumable blocks base tree (b ∷ []) shown taken

pub returns-in-Err-take_block-2-clause-resumable : goal.returns-in-Err-take_block-2-clause-resumable
returns-in-Err-take_block-2-clause-resumable c = λ blocks tree write_set less.
    let g = c.args.write_set.now.there.geometry in
    let base = image_of blocks c.args.write_set.now in
    let b = c.in-Ok-Some.block in
    let first = image_of blocks c.take_block.new.write_set in
    let taken : HasTaken c.take_block.new.write_set.there.geometry base tree (b ∷ []) first =
    subst (λ (s : Geometry). HasTaken s base tree (b ∷ []) first) (sym c.take_block.ensures.geometry)
    (rw c.in-Ok-Some.field-0-is at
    (c.in-Ok-Some.ensures.ok blocks base tree [] write_set.shows (none_taken g base tree write_set.holds))) in
    let shown = c.in-Ok-Some.ensures.shows blocks write_set.shows in
    let inner = c.in-Ok-Some-take_block.inner in
    let second = image_of blocks c.take_block-2.new.write_set in
    let taken_two : HasTaken c.take_block-2.new.write_set.there.geometry base tree (inner ∷ b ∷ []) second =
    subst (λ (s : Geometry). HasTaken s base tree (inner ∷ b ∷ []) second) (sym c.take_block-2.ensures.geometry)
    (rw c.in-Ok-Some-take_block.field-0-is at
    (c.in-Ok-Some-take_block.ensures.ok blocks base tree (b ∷ []) shown taken)) in
    let shown_two = c.in-Ok-Some-take_block.ensures.shows blocks shown in
    c.in-Err-take_block-2.ensures.resumable blocks base tree (inner ∷ b ∷ []) shown_two taken_two
