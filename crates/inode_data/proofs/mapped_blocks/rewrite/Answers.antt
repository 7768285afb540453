use Rattle.std.proofs.Common.{◌≡◌, ℕ, [], ap, ◌∙◌, subst, arith}
use Rattle.layout.specs.declared.inode.Inode.{Inode}
use Rattle.layout.specs.Parts.{with_bytes, with_inode}
use Rattle.inode.specs.WriteSets.WriteSetContents.{Shows, image_of}
use Rattle.inode.proofs.WriteSetsLemmas.PutThere.{both_ok}
use Rattle.bitmap.proofs.NewBlocks.{none_taken}
use Rattle.inode_data.specs.Filling.{mapping}
use Rattle.inode_data.specs.CleanCounts.{clean_count}
use Rattle.inode_data.proofs.Cases.{block_there}
use Rattle.inode_data.proofs.PieceWritten.{not_zero}
use Rattle.inode_data.proofs.MappedFile.{as_mapped}
use Rattle.inode_data.proofs.Whole.{moved_piece}
use Rattle.inode_data.proofs.Stored.{stored}
use Rattle.inode_data.proofs.mapped_blocks.rewrite.Goals as goal

pub returns-clause-ok : goal.returns-clause-ok
returns-clause-ok c =
    let g = c.args.write_set.now.there.geometry in
    let n = c.args.number in
    let inode = c.args.inode.now in
    let b = c.args.block in
    let bytes = c.args.bytes.items in
    let size = c.args.size in
    both_ok c.store.result (λ shows images blocks tree offset piece write_set write at.
    let base = image_of blocks c.args.write_set.now in
    let new = mapping inode size inode.direct inode.indirect inode.double in
    let written : with_inode g (with_bytes base b 0 bytes) n c.sized-same.result
    ≡ with_inode g (with_bytes base b 0 bytes) n new =
    λ i. with_inode g (with_bytes base b 0 bytes) n (c.sized-same.ensures i) in
    moved_piece c.args.write_set.now c.store.new.write_set blocks (with_inode g (with_bytes base b 0 bytes) n new) tree n
    inode new c.sized-same.result offset piece c.store.ensures.geometry (images blocks ∙ written)
    (subst (Shows c.store.new.write_set) written (shows base write_set.shows)) write.has.less write.has.regular
    c.sized-same.ensures
    (stored g base tree n inode offset piece bytes size write [] base (none_taken g base tree write_set.holds)
    write_set.shows.long c.requires.len b inode.direct inode.indirect inode.double
    (block_there g base tree n inode (as_mapped g base tree n inode write.has) offset piece write.fits b bytes at
    (not_zero g b c.requires.lies)
    write.bytes_are)))
    c.store.ensures.shows c.store.ensures.image

pub returns-clause-once : goal.returns-clause-once
returns-clause-once c =
    let once = c.store.ensures.once c.args.inode.now.indirect c.args.inode.now.double in
    let same : ◌≡◌ {A = ℕ} (clean_count c.store.new.write_set c.args.number c.sized-same.result.indirect
    c.sized-same.result.double)
    (clean_count c.store.new.write_set c.args.number c.args.inode.now.indirect c.args.inode.now.double) =
    ap (λ (one : Inode). clean_count c.store.new.write_set c.args.number one.indirect one.double) c.sized-same.ensures in
    omega (arith, once, same)
