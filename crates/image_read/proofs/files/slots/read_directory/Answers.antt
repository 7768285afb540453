use Rattle.std.proofs.Common.{◌≡◌, ◌≤◌, ◌*◌, ◌∙◌, sym, true, false, length, take, arith}
use Rattle.std.proofs.lemmas.Result.{IfOk-weaker}
use Rattle.base.specs.declared.TheConstants.{SLOTS_PER_BLOCK}
use Rattle.disk.specs.Crash.{Image}
use Rattle.layout.specs.Decode.{bytes_of, span_of}
use Rattle.layout.specs.Parts.{content_in}
use Rattle.circ.specs.Log.Recovery.{image_of}
use Rattle.image_read.specs.LoggedImage.WithOverlay.{with_overlay}
use Rattle.image_read.specs.Files.Slots.{HasSlots, IsSpanned}
use Rattle.image_read.proofs.FilesLemmas.Spanned.{are_spanned, back_is_none, leading_is_data, has_spanned, slots_of_leading}
use Rattle.image_read.proofs.files.slots.read_directory.Goals.{then-not-are_data-via-then-not-are_data, then-not-are_data-via-else-not-are_data+then-not-are_none}
use Rattle.image_read.proofs.files.slots.read_directory.Goals as goal

pub returns-then-not-are_data-clause-refused : goal.returns-then-not-are_data-clause-refused
returns-then-not-are_data-clause-refused g c = λ preserves certain long range spans.
    let geometry = c.args.geometry.now in
    let inode = c.args.inode.now in
    let numbers = c.args.numbers.now in
    let content : Image =
    content_in geometry (with_overlay c.args.overlay.now (image_of (g.D.CrashDisk.device c.args.disk.now))) in
    let few : span_of inode ≤ length numbers = spans.few in
    elim c.then-not-are_data.branch [
      | then-not-are_data-via-then-not-are_data w ↦
          let lie = leading_is_data geometry content inode numbers c.split_at.result.0.now c.split_at.result.1.now
          c.split_at.ensures.front c.split_at.ensures.back few spans c.requires.placed in
          let clash : true ≡ false = sym lie ∙ sym c.are_data.ensures ∙ w.if-not-are_data.true in cc
      | then-not-are_data-via-else-not-are_data+then-not-are_none w ↦
          let none = back_is_none geometry content inode numbers c.split_at.result.0.now c.split_at.result.1.now
          c.split_at.ensures.front c.split_at.ensures.back few spans in
          let clash : true ≡ false = sym none ∙ sym w.are_none.ensures ∙ w.if-not-are_none.true in cc
    ]

pub returns-clause-spanned : goal.returns-clause-spanned
returns-clause-spanned g c = λ preserves certain long.
    let geometry = c.args.geometry.now in
    let inode = c.args.inode.now in
    let numbers = c.args.numbers.now in
    let leading = c.split_at.result.0.now in
    let content : Image =
    content_in geometry (with_overlay c.args.overlay.now (image_of (g.D.CrashDisk.device c.args.disk.now))) in
    let few : span_of inode ≤ length numbers = omega (arith, c.if-span-numbers.false) in
    IfOk-weaker c.read_slots.result
    (λ slots. HasSlots geometry.inodes (bytes_of content leading) (SLOTS_PER_BLOCK * length leading) slots.items)
    (λ slots. IsSpanned geometry.inodes content inode numbers)
    (λ slots has. are_spanned geometry content inode numbers leading c.split_at.result.1.now c.split_at.ensures.front
    c.split_at.ensures.back few (sym c.are_data.ensures ∙ c.if-not-are_data.false)
    (sym c.are_none.ensures ∙ c.if-not-are_none.false) slots.items has)
    (c.read_slots.ensures.slots preserves certain long)

pub returns-clause-slots : goal.returns-clause-slots
returns-clause-slots g c = λ preserves certain long.
    let geometry = c.args.geometry.now in
    let inode = c.args.inode.now in
    let numbers = c.args.numbers.now in
    let leading = c.split_at.result.0.now in
    let content : Image =
    content_in geometry (with_overlay c.args.overlay.now (image_of (g.D.CrashDisk.device c.args.disk.now))) in
    let few : span_of inode ≤ length numbers = omega (arith, c.if-span-numbers.false) in
    IfOk-weaker c.read_slots.result
    (λ slots. HasSlots geometry.inodes (bytes_of content leading) (SLOTS_PER_BLOCK * length leading) slots.items)
    (λ slots. HasSlots geometry.inodes (bytes_of content (take (span_of inode) numbers)) (SLOTS_PER_BLOCK * span_of inode)
    slots.items)
    (λ slots has. has_spanned geometry content inode numbers leading c.split_at.result.1.now c.split_at.ensures.front
    c.split_at.ensures.back few slots.items has)
    (c.read_slots.ensures.slots preserves certain long)

pub returns-clause-refused : goal.returns-clause-refused
returns-clause-refused g c = λ preserves certain long range spans.
    let geometry = c.args.geometry.now in
    let content : Image =
    content_in geometry (with_overlay c.args.overlay.now (image_of (g.D.CrashDisk.device c.args.disk.now))) in
    c.read_slots.ensures.refused preserves certain long range
    (slots_of_leading geometry content c.args.inode.now c.args.numbers.now c.split_at.result.0.now
    c.split_at.result.1.now c.split_at.ensures.front c.split_at.ensures.back spans.few spans)
