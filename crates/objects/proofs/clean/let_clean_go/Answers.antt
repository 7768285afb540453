use Rattle.std.proofs.Common.{◌∙◌, ◌≡◌, ◌||◌, Bool, true, false, not, sym, subst, nat_eq, is_none, arith}
use Rattle.objects.specs.Pins.{LetsGo, count_in}
use Rattle.objects.specs.Unneeded.{AreTracked}
use Rattle.objects.specs.declared.present.Present.{Present}
use Rattle.objects.proofs.Tracked.{tracked_gone, tracked_pinned}
use Rattle.objects.proofs.Wanted.{lets_go, lets_none}
use Rattle.objects.proofs.clean.let_clean_go.Goals as goal

pub returns-then-count_of-eq0-clause-goes : goal.returns-then-count_of-eq0-clause-goes
returns-then-count_of-eq0-clause-goes c =
    subst (LetsGo (count_in c.args.pins.now.entries) c.args.blocks.now) (sym c.unpin.ensures)
    (lets_go (count_in c.args.pins.now.entries) c.args.block c.args.blocks.now
    (sym c.count_of.ensures ∙ c.if-count_of-eq0.true))

-- where it isn't being fetched it is kept only under another number
pending : (t n : Bool) → t ≡ true → (not t || n) ≡ true → n ≡ true
pending true n is kept = kept
pending false n is kept = absurd (cc)

pub returns-then-count_of-eq0-clause-tracked : goal.returns-then-count_of-eq0-clause-tracked
returns-then-count_of-eq0-clause-tracked c =
    λ numbers h. subst (AreTracked numbers (count_in c.args.pins.now.entries)) (sym c.unpin.ensures)
    (tracked_gone c.args.block numbers (count_in c.args.pins.now.entries)
    (λ (resident : Present). not (nat_eq resident.block.0 c.args.block.0) || is_none resident.content)
    (λ resident is kept. pending (nat_eq resident.block.0 c.args.block.0) (is_none resident.content) is kept)
    c.args.blocks.now h)

pub returns-else-count_of-eq0-clause-goes : goal.returns-else-count_of-eq0-clause-goes
returns-else-count_of-eq0-clause-goes c = lets_none (count_in c.args.pins.now.entries) c.args.blocks.now

pub returns-else-count_of-eq0-clause-tracked : goal.returns-else-count_of-eq0-clause-tracked
returns-else-count_of-eq0-clause-tracked c =
    λ numbers h. tracked_pinned c.args.block numbers (count_in c.args.pins.now.entries)
    (let some = c.count_of.ensures in let more = c.if-count_of-eq0.false in omega (arith, some, more))
    c.args.blocks.now h
