use Rattle.std.proofs.Common.{◌≡◌, sym, ap, ◌∙◌, subst, true}
use Rattle.disk.specs.declared.block.BlockNo.{BlockNo}
use Rattle.layout.specs.Objects.{whole}
use Rattle.layout.specs.Parts.{content_in, with_bytes}
use Rattle.layout.specs.Places.{is_data}
use Rattle.inode.specs.declared.snap.Snap.{Snap}
use Rattle.dir.specs.Slots.{IsDirectoryOf}
use Rattle.inode.specs.WriteSets.WriteSetContents.{Shows, image_of}
use Rattle.dir_writes.specs.SlotWrites.{IsSlotted}
use Rattle.dir_writes.proofs.slot_writes.put_slot.Goals as goal

pub put-requires-clause-object : goal.put-requires-clause-object
put-requires-clause-object c =
    whole
    (ap (λ (k : BlockNo). is_data c.args.write_set.now.there.geometry k.0) c.whole.ensures.value.0
    ∙ subst (λ (s : Snap). is_data s.geometry c.in-Ok.number ≡ true) c.there.ensures.there c.in-Ok.ensures.data)
    c.whole.ensures.value.1 c.whole.ensures.value.2

pub returns-in_ok-put-in-Ok-clause-ok : goal.returns-in_ok-put-in-Ok-clause-ok
returns-in_ok-put-in-Ok-clause-ok c = λ blocks tree file write_set is less.
    let image = image_of blocks c.args.write_set.now in
    let there = c.there.ensures.there in
    let made = subst (λ (s : Snap). IsSlotted (content_in s.geometry image) c.args.inode.now c.args.slot c.args.bytes.now c.in-Ok.number
    c.in-Ok.block.items) there
    (c.in-Ok.ensures.ok image tree file
    (subst (λ (s : Snap). IsDirectoryOf s image tree file c.args.inode.now) (sym there) is) less) in
    let block : c.whole.result.block.0 ≡ c.in-Ok.number =
    ap (λ (k : BlockNo). k.0) c.whole.ensures.value.0 in (
      subst (Shows c.put.new.self) (sym (c.in_ok-put-in-Ok.ensures.image blocks))
          (c.in_ok-put-in-Ok.ensures.shows image write_set.shows),
      c.in_ok-put-in-Ok.ensures.image blocks
          ∙ (λ i. with_bytes image ((block ∙ made.0) i) (c.whole.ensures.value.1 i) (made.1 i)),
    )
