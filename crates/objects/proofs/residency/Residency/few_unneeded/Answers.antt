use Rattle.std.proofs.Common.{◌<◌, ◌*◌, length, subst, arith}
use Rattle.base.specs.declared.TheConstants.{CLEAN_BLOCKS}
use Rattle.objects.specs.Pins.{Residents, count_in}
use Rattle.objects.specs.Unneeded.{unneeded}
use Rattle.objects.proofs.Tracked.{unneeded_tracked}
use Rattle.objects.proofs.residency.Residency.few_unneeded.Goals as goal

pub returns : goal.returns
returns c =
    let inside = c.self.inside in
    let most = unneeded_tracked inside.recent (count_in inside.pins.entries) inside.blocks c.lawful.ensures c.self.invariant.tracked in
    let few = c.self.invariant.few in
    subst (λ (residents : Residents). length (unneeded residents) < 2 * CLEAN_BLOCKS) c.self.view_is
    (omega (arith, most, few))
