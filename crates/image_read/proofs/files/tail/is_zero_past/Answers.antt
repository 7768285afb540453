use Rattle.std.proofs.Common.{◌≡◌, ◌+◌, ◌-◌, ◌*◌, ◌∙◌, ◌&&◌, ap, refl, sym, Bool, true, false, drop, get_or, take, arith}
use Rattle.std.proofs.lemmas.List.{take_all}
use Rattle.base.specs.declared.TheConstants.{BLOCK_BYTES}
use Rattle.disk.specs.Crash.{Image}
use Rattle.disk.specs.Device.{Device}
use Rattle.layout.specs.Decode.{bytes_of, content_of}
use Rattle.layout.specs.Fields.{is_zeros}
use Rattle.layout.specs.InodeForm.{is_data_block_or_none}
use Rattle.layout.specs.Parts.{content_in}
use Rattle.circ.specs.Log.Recovery.{image_of}
use Rattle.circ.proofs.LogLemmas.OnlyRead.{no_read, reads_then, certain_then}
use Rattle.image_read.specs.LoggedImage.WithOverlay.{with_overlay}
use Rattle.image_read.proofs.FilesLemmas.Data.{each_passes}
use Rattle.image_read.proofs.FilesLemmas.TailBytes.{none_yet, one_more, some_there}
use Rattle.image_read.proofs.FilesLemmas.Then.{content_then, long_then}
use Rattle.image_read.proofs.files.tail.is_zero_past.Goals as goal

pub places-init : goal.places-init
places-init g c = record {
  reads = no_read (g.D.CrashDisk.device c.args.disk.now);
  failures = refl;
  model = λ preserves. preserves;
  zeros = λ preserves certain long.
      let image : Image = with_overlay c.args.overlay.now (image_of (g.D.CrashDisk.device c.args.disk.now)) in
      none_yet (content_in c.args.geometry.now image) long c.args.size c.args.numbers.now;
}

pub is_zero_block-requires-clause-size : goal.is_zero_block-requires-clause-size
is_zero_block-requires-clause-size g c = omega (arith, c.requires.size, c.places.invariant.reads.size)

pub is_zero_block-requires-clause-placed : goal.is_zero_block-requires-clause-placed
is_zero_block-requires-clause-placed g c =
    each_passes (is_data_block_or_none c.args.geometry.now) c.args.numbers.now c.places.index_within c.requires.placed
    c.places-test.true

pub returns-then-not-branch-clause-zeros : goal.returns-then-not-branch-clause-zeros
returns-then-not-branch-clause-zeros g c = λ preserves certain long.
    let first : Device = g.D.CrashDisk.device c.args.disk.now in
    let before : Device = g.D.CrashDisk.device c.places.disk in
    let inv = c.places.invariant in
    let geometry = c.args.geometry.now in
    let logged = c.args.overlay.now in
    let content : Image = content_in geometry (with_overlay logged (image_of first)) in
    let numbers = c.args.numbers.now in
    let index_within = c.places.index_within in
    let number = get_or numbers index_within 0 in
    let here : is_zeros (drop (c.args.size - BLOCK_BYTES * index_within) (content_of content number)) ≡ false =
    ap (λ k. is_zeros (drop k (content_of content number))) (sym c.saturating_sub-from.ensures)
    ∙ ap (λ l. is_zeros (drop c.saturating_sub-from.result l)) (sym (content_then geometry logged first before inv.reads number))
    ∙ sym (c.in_ok-is_zero_block.ensures.zeros preserves (certain_then first before inv.reads certain)
    (long_then geometry logged first before inv.reads long)) ∙ c.if-not-branch.true in
    sym (some_there content long c.args.size numbers (index_within + 1)
    (one_more content long c.args.size numbers index_within c.places-test.true
    ∙ ap (λ b. is_zeros (drop c.args.size (bytes_of content (take index_within numbers))) && b) here
    ∙ and_false (is_zeros (drop c.args.size (bytes_of content (take index_within numbers))))))
  where
    and_false : (b : Bool) → (b && false) ≡ false
    and_false true = refl
    and_false false = refl

pub places-preserved : goal.places-preserved
places-preserved g c =
    let first : Device = g.D.CrashDisk.device c.args.disk.now in
    let before : Device = g.D.CrashDisk.device c.places.disk in
    let after : Device = g.D.CrashDisk.device c.is_zero_block.new.disk in
    let inv = c.places.invariant in
    let geometry = c.args.geometry.now in
    let logged = c.args.overlay.now in
    let content : Image = content_in geometry (with_overlay logged (image_of first)) in
    let numbers = c.args.numbers.now in
    let index_within = c.places.index_within in
    let number = get_or numbers index_within 0 in
    record {
      reads = reads_then first before after inv.reads c.is_zero_block.ensures.reads;
      failures = c.in_ok-is_zero_block.ensures.failure ∙ inv.failures;
      model = λ preserves. inv.model (c.is_zero_block.ensures.model preserves);
      zeros = λ preserves certain long.
          let here : is_zeros (drop (c.args.size - BLOCK_BYTES * index_within) (content_of content number)) ≡ true =
          ap (λ k. is_zeros (drop k (content_of content number))) (sym c.saturating_sub-from.ensures)
          ∙ ap (λ l. is_zeros (drop c.saturating_sub-from.result l))
          (sym (content_then geometry logged first before inv.reads number))
          ∙ sym (c.in_ok-is_zero_block.ensures.zeros preserves (certain_then first before inv.reads certain)
          (long_then geometry logged first before inv.reads long)) ∙ c.if-not-branch.false in
          let earlier : is_zeros (drop c.args.size (bytes_of content (take index_within numbers))) ≡ true =
          inv.zeros (c.is_zero_block.ensures.model preserves) certain long in
          one_more content long c.args.size numbers index_within c.places-test.true ∙ (λ i. earlier i && here i);
    }

pub returns-clause-zeros : goal.returns-clause-zeros
returns-clause-zeros g c = λ preserves certain long.
    let content : Image = content_in c.args.geometry.now
    (with_overlay c.args.overlay.now (image_of (g.D.CrashDisk.device c.args.disk.now))) in
    sym (c.places.invariant.zeros preserves certain long)
    ∙ ap (λ l. is_zeros (drop c.args.size (bytes_of content l)))
    (take_all c.places.index_within c.args.numbers.now (omega (arith, c.places-test.false)))
