use Rattle.std.proofs.Common.{◌≡◌, ◌≤◌, ◌++◌, Bool, length, take, subst, ap, arith}
use Rattle.std.proofs.lemmas.List.{length-drop}
use Rattle.rpc.specs.declared.stage.Stage.{Stage}
use Rattle.rpc.specs.Cutting.{IsAt, IsInside, taken_text, weight}
use Rattle.rpc.proofs.Stages.{fills, fills_all, fills_part, between, same_text}
use Rattle.rpc.proofs.cutter.Cutter.fill.Goals as goal

pub returns-then-count-left : goal.returns-then-count-left
returns-then-count-left c =
    let old = c.args.self.now in
    let last = c.args.last in
    let left = c.args.left in
    let n = c.min-count.result in
    let taken = taken_text old.taken.items in
    let at : IsInside last left taken old.content.items =
    subst (λ (s : Stage). IsAt s taken old.content.items) c.requires.inside c.requires.cut in
    let done = c.in_ok-gather.ensures in
    let le : n ≤ left = omega (arith, c.if-count-left.true) in
    let all : n ≡ length old.pending.items =
    omega (arith, c.if-count-left.true, c.min-count.ensures, c.len.ensures.value) in
    record {
      cut = rw (done.taken, done.content)
          (fills last left n taken old.content.items old.pending.items at le (omega (arith, all)));
      text = rw (done.taken, done.pending) (same_text n taken old.pending.items);
      tells_stage = rw (done.taken, done.pending, done.content)
          (fills_part last left n taken old.content.items old.pending.items at c.if-count-left.true all);
    }

pub returns : goal.returns
returns c =
    let old = c.args.self.now in
    let left = c.args.left in
    let n = c.min-count.result in
    let taken = taken_text old.taken.items in
    let at : IsInside c.args.last left taken old.content.items =
    subst (λ (s : Stage). IsAt s taken old.content.items) c.requires.inside c.requires.cut in
    let done = c.in_ok-gather.ensures in
    let le : n ≤ left = omega (arith, c.min-count.ensures) in
    let there : n ≤ length old.pending.items = omega (arith, c.min-count.ensures, c.len.ensures.value) in
    let at_end = fills_all c.args.last left n taken old.content.items old.pending.items at le there
    c.if-count-left.false in
    let at_false = subst (λ (l : Bool). IsInside l 0 (taken ++ take n old.pending.items)
    (old.content.items ++ take n old.pending.items)) c.if-last.false at_end in
    record {
      cut = rw (done.taken, done.content) (between (taken ++ take n old.pending.items)
          (old.content.items ++ take n old.pending.items) at_false);
      text = rw (done.taken, done.pending) (same_text n taken old.pending.items);
      tells_stage = omega (
        arith,
        ap length done.pending,
        length-drop n old.pending.items,
        ap weight c.requires.inside,
      );
    }
