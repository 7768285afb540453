use Rattle.std.proofs.Common.{◌≡◌, ℕ, Bool, true, false, not, nat_eq, is_none, List, sym, subst}
use Rattle.disk.specs.declared.block.BlockNo.{BlockNo}
use Rattle.objects.specs.Pins.{count_in}
use Rattle.objects.specs.Unneeded.{AreTracked}
use Rattle.objects.specs.declared.present.Present.{Present}
use Rattle.objects.proofs.Tracked.{tracked_gone, tracked_unpinned}
use Rattle.objects.proofs.residency.Residency.take_back.Goals as goal

never : (t n : Bool) → t ≡ true → not t ≡ true → n ≡ true
never true n is kept = absurd (cc)
never false n is kept = absurd (cc)

pub invariant_of-self : goal.invariant_of-self
invariant_of-self c =
    let numbers : List ℕ = c.self.inside.recent in
    let old : BlockNo → ℕ = count_in c.self.inside.pins.entries in
    let new : BlockNo → ℕ = count_in c.take.new.pins.entries in
    let blocks : List Present = c.self.inside.blocks in
    record {
      few = c.self.invariant.few;
      tracked = subst (AreTracked numbers new) (sym c.take_back.ensures)
          (tracked_gone c.args.block numbers new
          (λ (resident : Present). not (nat_eq resident.block.0 c.args.block.0))
          (λ resident is kept. never (nat_eq resident.block.0 c.args.block.0) (is_none resident.content) is kept) blocks
          (tracked_unpinned c.args.block numbers old new c.take.ensures.counts blocks c.self.invariant.tracked));
    }
