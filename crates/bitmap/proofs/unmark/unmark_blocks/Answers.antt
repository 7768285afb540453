use Rattle.std.proofs.Common.{rules, ◌≡◌, ℕ, List, length, take, drop, get_or, sym, ap, ◌∙◌, subst, ◌/◌}
use Rattle.std.proofs.Common.{All}
use Rattle.std.proofs.lemmas.List.Elements.{recursion_from_All}
use Rattle.layout.specs.declared.grid.TheConstants.{PIECE_BITS}
use Rattle.layout.specs.Parts.{with_bytes}
use Rattle.layout.specs.Objects.{IsObject}
use Rattle.layout.proofs.OnGrid.{at_home}
use Rattle.inode.specs.declared.snap.Snap.{Snap}
use Rattle.inode.specs.Over.{MaySuspend}
use Rattle.inode.specs.Read.{Saw}
use Rattle.inode.specs.Snap.{IsNew}
use Rattle.inode.specs.WriteSets.WriteSetContents.{Shows, image_of}
use Rattle.layout_records.proofs.OneBit.{written_back}
use Rattle.bitmap.specs.Frees.{AreCleared, Frees, IsInPiece}
use Rattle.bitmap.proofs.Asked.{has_bit_of}
use Rattle.bitmap.proofs.ClearedBits.{cleared_length, frees_cleared}
use Rattle.bitmap.proofs.unmark.unmark_blocks.Goals as goal

pub returns-in-Err-clause-err : goal.returns-in-Err-clause-err
returns-in-Err-clause-err c =
    c.there-2.ensures.stops c.in-Err.suspend
    (subst (MaySuspend c.there-2.result.now) (sym c.in-Err.ensures.need) (
      subst (IsNew c.there-2.result.now) c.in-Err.ensures.need c.in-Err.ensures.err,
      subst (λ (s : Snap). IsObject s.geometry c.piece_addr-addr.result) (sym c.there-2.ensures.there)
          (has_bit_of c.args.write_set.now.there.geometry (get_or c.args.numbers.now 0 0) c.piece_addr-addr.result
          c.requires.first c.piece_addr-addr.ensures.block c.piece_addr-addr.ensures.offset
          c.piece_addr-addr.ensures.len),
    ))

pub put-requires-clause-object : goal.put-requires-clause-object
put-requires-clause-object c =
    has_bit_of c.args.write_set.now.there.geometry (get_or c.args.numbers.now 0 0) c.piece_addr-addr.result
    c.requires.first c.piece_addr-addr.ensures.block c.piece_addr-addr.ensures.offset c.piece_addr-addr.ensures.len

pub returns-clause-shows : goal.returns-clause-shows
returns-clause-shows c = λ blocks shows.
    subst (Shows c.put.new.self) (sym (c.in_ok-put.ensures.image blocks))
    (c.in_ok-put.ensures.shows (image_of blocks c.args.write_set.now) shows)

pub returns-clause-frees : goal.returns-clause-frees
returns-clause-frees c = λ blocks shows.
    let g = c.args.write_set.now.there.geometry in
    let image = image_of blocks c.args.write_set.now in
    let first = get_or c.args.numbers.now 0 0 in
    let numbers = take c.count_in_piece-count.result c.args.numbers.now in
    let addr = c.piece_addr-addr.result in
    let address_is = c.piece_addr-addr.ensures in
    let new = c.unmark_bits.new.bytes in
    let put = c.in_ok-put.ensures.image blocks
    ∙ ap (with_bytes image addr.block.0 addr.offset)
    (written_back new (drop (length new) c.in_ok-bytes.bytes.items) c.in_ok-bytes.bytes.len
    (let count : length c.in_ok-bytes.bytes.items ≡ c.in_ok-bytes.bytes.len = search rules in
    cleared_length numbers c.deref_mut.result.now new c.unmark_bits.ensures.are
    ∙ ap (λ (l : List ℕ). length l) c.deref_mut.ensures.value ∙ count)) in
    subst (Frees g numbers image) (sym put)
    (frees_cleared g addr (first / PIECE_BITS) address_is.block address_is.offset address_is.len image numbers c.in-Ok.bytes.now new
    (shows.long addr.block.0
    (at_home g addr (has_bit_of g first addr c.requires.first address_is.block address_is.offset address_is.len)).1)
    (c.in-Ok.ensures.there image (subst (Saw image) (sym c.there-2.ensures.there) shows.saw))
    (recursion_from_All (IsInPiece g.blocks (first / PIECE_BITS)) numbers
    (subst (λ (s : Snap). All (IsInPiece s.geometry.blocks (first / PIECE_BITS)) numbers) c.there.ensures.there
    c.count_in_piece-count.ensures.are))
    (subst (λ l. AreCleared numbers l new) (c.deref_mut.ensures.value ∙ c.in_ok-bytes.ensures.items)
    c.unmark_bits.ensures.are))
