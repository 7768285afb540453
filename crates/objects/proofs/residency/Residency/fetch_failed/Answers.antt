use Rattle.std.proofs.Common.{◌||◌, ℕ, List, not, nat_eq, sym, subst}
use Rattle.std.specs.Prelude.{is_some}
use Rattle.disk.specs.declared.block.BlockNo.{BlockNo}
use Rattle.objects.specs.Pins.{count_in}
use Rattle.objects.specs.Unneeded.{AreTracked}
use Rattle.objects.specs.declared.present.Present.{Present}
use Rattle.objects.proofs.Tracked.{IsTracked, all_preserved}
use Rattle.objects.proofs.residency.Residency.fetch_failed.Goals as goal

pub invariant_of-self : goal.invariant_of-self
invariant_of-self c =
    let numbers : List ℕ = c.self.inside.recent in
    let pins : BlockNo → ℕ = count_in c.self.inside.pins.entries in
    record {
      few = c.self.invariant.few;
      tracked = subst (AreTracked numbers pins) (sym c.let_go.ensures)
          (all_preserved (IsTracked numbers pins) (IsTracked numbers pins)
          (λ (resident : Present). not (nat_eq resident.block.0 c.args.block.0) || is_some resident.content)
          (λ resident kept h. h) c.self.inside.blocks c.self.invariant.tracked);
    }
