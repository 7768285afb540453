use Rattle.std.proofs.Common.{◌<◌, ◌*◌, List, length, ap, arith, subst}
use Rattle.base.specs.declared.TheConstants.{CLEAN_BLOCKS}
use Rattle.objects.specs.Pins.{pins_of}
use Rattle.objects.specs.declared.present.Present.{Present}
use Rattle.txn_law.specs.Core.{CoreState}
use Rattle.txn.proofs.Counted.{unneeded_is}
use Rattle.txn.specs.Unneeded.{unneeded}
use Rattle.txn.proofs.transactions.Core.few_unneeded.Goals as goal

pub returns : goal.returns
returns g c =
    let core = c.self.inside in
    let same =
    ap (λ (blocks : List Present). length blocks)
    (unneeded_is core.holds core.records.items (pins_of core.present) core.present.blocks c.self.invariant.0.counted) in
    let few = c.few_unneeded.ensures in
    subst (λ (state : CoreState). length (unneeded state) < 2 * CLEAN_BLOCKS) c.self.view_is
    (omega (arith, same, few))
