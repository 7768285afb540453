-- What is said of the files is said of the image.
use Rattle.std.proofs.Common.{◌≡◌, ℕ, sym, subst, List, arith}
use Rattle.disk.specs.Crash.{Image}
use Rattle.disk.specs.Device.{Content, Device}
use Rattle.disk.specs.declared.block.BlockNo.{BlockNo}
use Rattle.circ.specs.Log.Overlay.{over}
use Rattle.circ.specs.Log.Recovery.{image_of}
use Rattle.circ.proofs.LogLemmas.OnlyRead.{certain_then}
use Rattle.image_read.specs.LoggedImage.WithOverlay.{with_overlay}
use Rattle.image_check.specs.Searched.{AreBlocksOf, IsSearched}
use Rattle.image_check.specs.declared.judgement.Counts.{Counts}
use Rattle.image_check.proofs.Overlaid.{over_blocks}
use Rattle.image_check.proofs.Refusing.{as_checked, counts_as, counts_then, image_is, is_checked}
use Rattle.image_check.proofs.passes.check_log.Goals as goal

pub read_overlay-requires : goal.read_overlay-requires
read_overlay-requires g c =
    let least = c.args.found.now.geometry.lawful.0.0 in omega (arith, least, c.requires)

pub search-requires : goal.search-requires
search-requires g c = let size = c.in-Ok.ensures.reads.size in omega (arith, size, c.requires)

pub returns-in-Err-clause-failure : goal.returns-in-Err-clause-failure
returns-in-Err-clause-failure g c =
    counts_as Counts (List (BlockNo × Content)) (g.D.CrashDisk.device c.args.disk.now)
    (g.D.CrashDisk.device c.read_overlay.new.disk) c.in-Err.cause c.in-Err.ensures.failure

pub returns-in-Err-clause-checked : goal.returns-in-Err-clause-checked
returns-in-Err-clause-checked g c = λ preserves clean is_super.
    let old : Device = g.D.CrashDisk.device c.args.disk.now in
    as_checked old.size (image_of old) c.in-Err.cause (c.in-Err.ensures.refused preserves clean)

pub returns-in-Ok-clause-failure : goal.returns-in-Ok-clause-failure
returns-in-Ok-clause-failure g c =
    counts_then (g.D.CrashDisk.device c.args.disk.now) (g.D.CrashDisk.device c.read_overlay.new.disk)
    (g.D.CrashDisk.device c.search.new.disk) c.search.result c.in-Ok.ensures.failure c.search.ensures.failure

pub returns-in-Ok-clause-checked : goal.returns-in-Ok-clause-checked
returns-in-Ok-clause-checked g c = λ preserves clean is_super.
    let old : Device = g.D.CrashDisk.device c.args.disk.now in
    let middle : Device = g.D.CrashDisk.device c.read_overlay.new.disk in
    let reads = c.in-Ok.ensures.reads in
    let found = c.args.found.now in
    let logged = c.in-Ok.overlay in
    let is_preserved = c.search.ensures.model preserves in
    let same : image_of middle ≡ image_of old = image_is old middle reads in
    let log_is = c.in-Ok.ensures.log is_preserved clean in
    let least = found.geometry.lawful.0.0 in
    let over_are : AreBlocksOf old.size (over (image_of old)) =
    over_blocks old (g.met.D.CrashDisk.whole c.args.disk.now (c.read_overlay.ensures.model is_preserved))
    (omega (arith, least, c.requires)) in
    let overlay_are : AreBlocksOf old.size (with_overlay logged (image_of middle)) =
    subst (λ (image : Image). AreBlocksOf old.size (with_overlay logged image)) (sym same)
    (subst (λ (l : List (BlockNo × Content)). AreBlocksOf old.size (with_overlay l (image_of old))) (sym log_is)
    over_are) in
    let said : IsSearched found.geometry found.boot (with_overlay logged (image_of middle)) c.search.result =
    c.search.ensures.searched preserves (certain_then old middle reads clean)
    (subst (λ (n : ℕ). AreBlocksOf n (with_overlay logged (image_of middle))) (sym c.requires) overlay_are) in
    is_checked old.size (image_of old) found is_super c.requires (c.in-Ok.ensures.range is_preserved clean)
    (c.in-Ok.ensures.homes is_preserved clean) c.search.result logged log_is
    (subst (λ (image : Image). IsSearched found.geometry found.boot (with_overlay logged image) c.search.result) same said)
