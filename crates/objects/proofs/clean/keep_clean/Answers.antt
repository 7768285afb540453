use Rattle.std.proofs.Common.{◌≡◌, ◌∙◌, ◌∷◌, ◌||◌, ℕ, List, sym, subst, arith}
use Rattle.disk.specs.declared.block.BlockNo.{BlockNo}
use Rattle.objects.specs.Pins.{count_in, is_wanted}
use Rattle.objects.specs.Recent.{is_tracked}
use Rattle.objects.specs.Unneeded.{AreTracked}
use Rattle.objects.specs.declared.present.Present.{Present}
use Rattle.objects.proofs.Tracked.{IsTracked, all_preserved, tracked_more}
use Rattle.objects.proofs.Wanted.{lets_none}
use Rattle.objects.proofs.clean.keep_clean.Goals as goal

pub returns-else-forget_oldest : goal.returns-else-forget_oldest
returns-else-forget_oldest c =
    let pins : BlockNo → ℕ = count_in c.args.pins.now.entries in
    let blocks : List Present = c.args.blocks.now in
    let same : c.forget_oldest.new.self ≡ c.track.new.self =
    c.forget_oldest.ensures.kept c.if-forget_oldest.false in
    record {
      goes = lets_none pins blocks;
      well_formed = record {
        few = c.forget_oldest.ensures.few;
        tracked = subst (λ (numbers : List ℕ). AreTracked numbers pins blocks) (sym same)
            (tracked_more (c.args.block.0 ∷ c.args.recent.now) c.track.new.self pins pins
            (λ at e. c.track.ensures.tracked c.if-not-track.false at ∙ e) (λ at. omega arith) blocks c.requires.tracked);
      };
    }

pub returns-then-forget_oldest-clause-well_formed : goal.returns-then-forget_oldest-clause-well_formed
returns-then-forget_oldest-clause-well_formed c =
    let pins : BlockNo → ℕ = count_in c.args.pins.now.entries in
    let numbers : List ℕ = c.forget_oldest.new.self in
    record {
      few = c.forget_oldest.ensures.few;
      tracked = subst (AreTracked numbers pins) (sym c.let_others_go.ensures)
          (all_preserved (IsTracked (c.args.block.0 ∷ c.args.recent.now) pins) (IsTracked numbers pins)
          (λ (resident : Present). is_tracked numbers resident.block || is_wanted pins resident)
          (λ resident kept h. kept) c.args.blocks.now c.requires.tracked);
    }
