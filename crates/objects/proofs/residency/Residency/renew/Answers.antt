use Rattle.std.proofs.Common.{ℕ, List, sym, subst}
use Rattle.disk.specs.declared.block.BlockNo.{BlockNo}
use Rattle.objects.specs.Pins.{count_in}
use Rattle.objects.specs.Unneeded.{AreTracked}
use Rattle.objects.proofs.Tracked.{tracked_renewed}
use Rattle.objects.proofs.residency.Residency.renew.Goals as goal

pub invariant_of-self : goal.invariant_of-self
invariant_of-self c =
    let numbers : List ℕ = c.self.inside.recent in
    let pins : BlockNo → ℕ = count_in c.self.inside.pins.entries in
    record {
      few = c.self.invariant.few;
      tracked = subst (AreTracked numbers pins) (sym c.renew.ensures)
          (tracked_renewed c.args.block numbers pins c.args.content c.self.inside.blocks c.self.invariant.tracked);
    }
