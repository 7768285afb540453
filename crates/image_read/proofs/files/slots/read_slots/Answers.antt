use Rattle.std.proofs.Common.{rules, ◌≡◌, ◌∙◌, ap, refl, sym, true, inl, inr, get_or, length, nat_lt, ◌*◌, subst, arith}
use Rattle.std.specs.List.{list_all}
use Rattle.base.specs.declared.TheConstants.{SLOTS_PER_BLOCK}
use Rattle.disk.specs.Crash.{Image}
use Rattle.disk.specs.Device.{Device}
use Rattle.layout.specs.declared.slot.Slot.{Slot}
use Rattle.layout.specs.Decode.{bytes_of, content_of}
use Rattle.layout.specs.Parts.{content_in}
use Rattle.layout.specs.Places.{is_data}
use Rattle.circ.specs.Log.Recovery.{image_of}
use Rattle.circ.proofs.LogLemmas.OnlyRead.{no_read, reads_then, certain_then}
use Rattle.image_read.specs.LoggedImage.WithOverlay.{with_overlay}
use Rattle.image_read.specs.declared.parts.fault.PartFault.TheVariants.{Range}
use Rattle.image_read.proofs.PartsLemmas.OverlayThen.{overlay_then}
use Rattle.image_read.specs.Files.Slots.{HasSlots}
use Rattle.image_read.proofs.FilesLemmas.Data.{data_content, each_passes, within}
use Rattle.image_read.proofs.FilesLemmas.SlotBlocks.{block_too, more_slots, no_slots}
use Rattle.image_read.proofs.files.slots.read_slots.Goals as goal

pub places-init : goal.places-init
places-init g c = record {
  reads = no_read (g.D.CrashDisk.device c.args.disk.now);
  failures = refl;
  model = λ preserves. preserves;
  within = ap (list_all (λ (slot : Slot). nat_lt slot.number c.args.geometry.now.inodes)) c.new-slots.ensures.items;
  slots = λ preserves certain long.
      let image : Image = with_overlay c.args.overlay.now (image_of (g.D.CrashDisk.device c.args.disk.now)) in
      let content : Image = content_in c.args.geometry.now image in
      subst (HasSlots c.args.geometry.now.inodes (bytes_of content c.args.numbers.now) 0) (sym c.new-slots.ensures.items)
      (no_slots c.args.geometry.now.inodes content long c.args.numbers.now);
}

pub read-requires : goal.read-requires
read-requires g c =
    let less = within c.args.geometry.now (get_or c.args.numbers.now c.places.index_within 0)
    (each_passes (is_data c.args.geometry.now) c.args.numbers.now c.places.index_within c.requires.placed c.places-test.true) in
    omega (arith, less, c.requires.size, c.places.invariant.reads.size)

pub returns-in_err-push_slots-clause-refused : goal.returns-in_err-push_slots-clause-refused
returns-in_err-push_slots-clause-refused g c = λ preserves certain long range are.
    let first : Device = g.D.CrashDisk.device c.args.disk.now in
    let before : Device = g.D.CrashDisk.device c.places.disk in
    let inv = c.places.invariant in
    let geometry = c.args.geometry.now in
    let image : Image = with_overlay c.args.overlay.now (image_of first) in
    let number = get_or c.args.numbers.now c.places.index_within 0 in
    let lies : is_data geometry number ≡ true =
    each_passes (is_data geometry) c.args.numbers.now c.places.index_within c.requires.placed c.places-test.true in
    let is : c.as_slice.result.now ≡ content_of (content_in geometry image) number =
    c.as_slice.ensures.bytes
    ∙ c.in_ok-read.ensures.overlaid_content preserves (certain_then first before inv.reads certain)
    ∙ overlay_then c.args.overlay.now first before inv.reads number
    ∙ sym (data_content geometry image number lies) in
    let fault : c.in_err-push_slots.field-0.0 ≡ Range = search rules in
    elim c.in_err-push_slots.ensures.refused [
      | inl memory ↦ absurd (let never = sym memory ∙ fault in cc)
      | inr refused ↦ refused.1 (block_too geometry.inodes (content_in geometry image) long c.args.numbers.now
          c.places.index_within c.places-test.true c.as_slice.result.now is are)
    ]

pub places-preserved : goal.places-preserved
places-preserved g c =
    let first : Device = g.D.CrashDisk.device c.args.disk.now in
    let before : Device = g.D.CrashDisk.device c.places.disk in
    let after : Device = g.D.CrashDisk.device c.read.new.disk in
    let inv = c.places.invariant in
    let geometry = c.args.geometry.now in
    let image : Image = with_overlay c.args.overlay.now (image_of first) in
    let number = get_or c.args.numbers.now c.places.index_within 0 in
    let lies : is_data geometry number ≡ true =
    each_passes (is_data geometry) c.args.numbers.now c.places.index_within c.requires.placed c.places-test.true in
    record {
      reads = reads_then first before after inv.reads c.read.ensures.reads;
      failures = c.in_ok-read.ensures.failure ∙ inv.failures;
      model = λ preserves. inv.model (c.read.ensures.model preserves);
      within = c.in_ok-push_slots.ensures.pushed.within inv.within;
      slots = λ preserves certain long.
          let is : c.as_slice.result.now ≡ content_of (content_in geometry image) number =
          c.as_slice.ensures.bytes
          ∙ c.in_ok-read.ensures.overlaid_content preserves (certain_then first before inv.reads certain)
          ∙ overlay_then c.args.overlay.now first before inv.reads number
          ∙ sym (data_content geometry image number lies) in
          more_slots geometry.inodes (content_in geometry image) long c.args.numbers.now c.places.index_within
          c.places-test.true c.as_slice.result.now is c.places.slots.items c.push_slots.new.slots.items
          (inv.slots (c.read.ensures.model preserves) certain long) c.in_ok-push_slots.ensures.pushed;
    }

pub returns-clause-slots : goal.returns-clause-slots
returns-clause-slots g c = λ preserves certain long.
    let geometry = c.args.geometry.now in
    let content : Image =
    content_in geometry (with_overlay c.args.overlay.now (image_of (g.D.CrashDisk.device c.args.disk.now))) in
    let all : c.places.index_within ≡ length c.args.numbers.now = omega (arith, c.places-test.false, c.places.auto.index_within-end) in
    subst (λ n. HasSlots geometry.inodes (bytes_of content c.args.numbers.now) (SLOTS_PER_BLOCK * n) c.places.slots.items)
    all (c.places.invariant.slots preserves certain long)
