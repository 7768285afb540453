use Rattle.std.proofs.Common.{◌<◌, ◌∙◌, ◌∷◌, ℕ, true, List, ap, sym, subst, arith}
use Rattle.disk.specs.declared.block.BlockNo.{BlockNo}
use Rattle.objects.specs.Pins.{Residents, count_in, pins_of, spared}
use Rattle.objects.specs.Present.{filled}
use Rattle.objects.specs.declared.present.Present.{Present}
use Rattle.objects.specs.Unneeded.{AreTracked}
use Rattle.objects.proofs.Tracked.{tracked_filled, tracked_pinned}
use Rattle.objects.proofs.Wanted.{spared_all}
use Rattle.objects.proofs.residency.Residency.fetched.Goals as goal

pub returns-else-count_of-eq0 : goal.returns-else-count_of-eq0
returns-else-count_of-eq0 c =
    let blocks : List Present = c.self.inside.blocks in (
      (λ resident. true),
      ap (λ (xs : List Present). record { blocks = xs; counts = c.self.inside.pins.entries })
          (c.fill.ensures
          ∙ spared_all (count_in c.self.inside.pins.entries) (filled blocks c.args.block c.args.content))
          ∙ ap (λ (old : Residents). record old {
            blocks = spared (λ resident. true) (pins_of old) (filled old.blocks c.args.block c.args.content);
          }) c.self.view_is,
    )

pub keep_clean-requires-clause-tracked : goal.keep_clean-requires-clause-tracked
keep_clean-requires-clause-tracked c =
    let numbers : List ℕ = c.self.inside.recent in
    let pins : BlockNo → ℕ = count_in c.self.inside.pins.entries in
    subst (AreTracked (c.args.block.0 ∷ numbers) pins) (sym c.fill.ensures)
    (tracked_filled c.args.block numbers pins c.args.content c.self.inside.blocks c.self.invariant.tracked)

pub invariant_of-self-else-count_of-eq0 : goal.invariant_of-self-else-count_of-eq0
invariant_of-self-else-count_of-eq0 c =
    let numbers : List ℕ = c.self.inside.recent in
    let pins : BlockNo → ℕ = count_in c.self.inside.pins.entries in
    let some : 0 < pins c.args.block =
    (let count = c.count_of.ensures in let more = c.if-count_of-eq0.false in omega (arith, count, more)) in
    record {
      few = c.self.invariant.few;
      tracked = subst (AreTracked numbers pins) (sym c.fill.ensures)
          (tracked_pinned c.args.block numbers pins some (filled c.self.inside.blocks c.args.block c.args.content)
          (tracked_filled c.args.block numbers pins c.args.content c.self.inside.blocks c.self.invariant.tracked));
    }
