use Rattle.std.proofs.Common.{◌≡◌, ap, arith}
use Rattle.base.specs.declared.TheConstants.{LOG_HEADER_BLOCK}
use Rattle.circ.specs.Log.Overlay.{start_in, count_in, positions, content_or}
use Rattle.circ.specs.Log.Effects.{newest_in}
use Rattle.circ.proofs.log.law.an_empty_log_hides_nothing.Goals as goal

pub returns : goal.returns
returns c image block same =
    let none : count_in image ≡ 0 = omega arith in
    ap (λ count. content_or (newest_in (positions (image LOG_HEADER_BLOCK) image (start_in image) count)
    block) (image block)) none
