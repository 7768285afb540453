use Rattle.std.proofs.Common.{rules, ◌≡◌, ℕ, List, length, drop, sym, ap, ◌∙◌, subst, ◌%◌, arith}
use Rattle.layout.specs.declared.grid.TheConstants.{PIECE_BITS}
use Rattle.layout.specs.Parts.{with_bytes}
use Rattle.layout.specs.Objects.{IsObject}
use Rattle.layout.proofs.OnGrid.{at_home}
use Rattle.inode.specs.declared.snap.Snap.{Snap}
use Rattle.inode.specs.Over.{MaySuspend}
use Rattle.inode.specs.Read.{Saw}
use Rattle.inode.specs.Snap.{IsNew}
use Rattle.inode.specs.WriteSets.WriteSetContents.{Shows, image_of}
use Rattle.layout_records.specs.Bits.{HasBit}
use Rattle.bitmap.proofs.Asked.{is_object}
use Rattle.layout_records.proofs.OneBit.{written_back}
use Rattle.bitmap.proofs.PutBits.{puts}
use Rattle.bitmap.proofs.mark.mark.Goals as goal

pub returns-in-Err-clause-err : goal.returns-in-Err-clause-err
returns-in-Err-clause-err c =
    c.there.ensures.stops c.in-Err.suspend
    (subst (MaySuspend c.there.result.now) (sym c.in-Err.ensures.need) (
      subst (IsNew c.there.result.now) c.in-Err.ensures.need c.in-Err.ensures.err,
      subst (λ (s : Snap). IsObject s.geometry c.piece_addr-addr.result) (sym c.there.ensures.there)
          (is_object c.args.write_set.now.there.geometry c.args.first _ c.piece_addr-addr.result c.requires.from
          (let to = c.requires.to in omega (arith, to)) c.piece_addr-addr.ensures.block
          c.piece_addr-addr.ensures.offset c.piece_addr-addr.ensures.len),
    ))

pub returns-clause-shows : goal.returns-clause-shows
returns-clause-shows c = λ blocks shows.
    subst (Shows c.put.new.self) (sym (c.in_ok-put.ensures.image blocks))
    (c.in_ok-put.ensures.shows (image_of blocks c.args.write_set.now) shows)

pub put-requires-clause-object : goal.put-requires-clause-object
put-requires-clause-object c =
    is_object c.args.write_set.now.there.geometry c.args.first _ c.piece_addr-addr.result c.requires.from
    (let to = c.requires.to in omega (arith, to)) c.piece_addr-addr.ensures.block
    c.piece_addr-addr.ensures.offset c.piece_addr-addr.ensures.len

pub returns-clause-puts : goal.returns-clause-puts
returns-clause-puts c = λ blocks shows.
    puts (image_of blocks c.args.write_set.now) (image_of blocks c.put.new.self) c.args.first c.args.bit c.args.is
    c.piece_addr-addr.result c.in-Ok.bytes.now _ c.piece_addr-addr.ensures.block
    c.piece_addr-addr.ensures.offset c.piece_addr-addr.ensures.len
    (shows.long c.piece_addr-addr.result.block.0
    (at_home c.args.write_set.now.there.geometry c.piece_addr-addr.result
    (is_object c.args.write_set.now.there.geometry c.args.first _ c.piece_addr-addr.result c.requires.from
    (let to = c.requires.to in omega (arith, to)) c.piece_addr-addr.ensures.block
    c.piece_addr-addr.ensures.offset c.piece_addr-addr.ensures.len)).1)
    (c.in-Ok.ensures.there (image_of blocks c.args.write_set.now)
    (subst (Saw (image_of blocks c.args.write_set.now)) (sym c.there.ensures.there) shows.saw))
    (subst (λ l. HasBit (c.args.bit % PIECE_BITS) c.args.is l c.put_bit.new.bytes)
    (c.deref_mut.ensures.value ∙ c.in_ok-bytes.ensures.items) c.put_bit.ensures)
    (c.in_ok-put.ensures.image blocks
    ∙ ap (with_bytes (image_of blocks c.args.write_set.now) c.piece_addr-addr.result.block.0
    c.piece_addr-addr.result.offset)
    (written_back c.put_bit.new.bytes (drop (length c.put_bit.new.bytes) c.in_ok-bytes.bytes.items)
    c.in_ok-bytes.bytes.len
    (let count : length c.in_ok-bytes.bytes.items ≡ c.in_ok-bytes.bytes.len = search rules in
    c.put_bit.ensures.len ∙ ap (λ (l : List ℕ). length l) c.deref_mut.ensures.value ∙ count)))
