-- The log ends behind its blocks.
use Rattle.std.proofs.Common.{◌∙◌, ap, length, arith, List}
use Rattle.disk.specs.Crash.{Image}
use Rattle.disk.specs.Device.{Content}
use Rattle.disk.specs.declared.block.BlockNo.{BlockNo}
use Rattle.base.specs.declared.TheConstants.{LOG_HEADER_BLOCK}
use Rattle.circ.specs.Log.Overlay.{count_in, start_in}
use Rattle.circ.specs.Log.Recovery.{image_of}
use Rattle.circ.proofs.LogLemmas.Opening.{length-positions}
use Rattle.store_images.proofs.replays.start.find_log.Goals as goal

pub returns-in-Ok-clause-found : goal.returns-in-Ok-clause-found
returns-in-Ok-clause-found g c = λ is_preserved clean.
    let image : Image = image_of (g.D.CrashDisk.device c.args.disk.now) in
    let found = c.in-Ok.ensures.found is_preserved clean in
    let order = found.2.order in
    let start = found.0 in
    let many = c.len.ensures in
    let long = ap (λ (xs : List (BlockNo × Content)). length xs) found.1
    ∙ length-positions (image LOG_HEADER_BLOCK) image (start_in image) (count_in image) in
    record {
      range = found.2;
      homes = found.3;
      logged_is = found.1;
      end_is = omega (arith, order, start, many, long);
    }
