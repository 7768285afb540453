use Rattle.std.proofs.Common.{◌≡◌, ◌-◌, None, Some, sym, subst, drop, arith}
use Rattle.circ.specs.Log.Effects.{newest_in}
use Rattle.image_read.proofs.LoggedImageLemmas.Newest.{none_past, other_block, same_block}
use Rattle.image_read.proofs.logged_image.overlay.Overlay.last_of.Goals as goal

pub loop-i-init : goal.loop-i-init
loop-i-init c = record {
  end = omega (arith, c.len-i.ensures);
  none = none_past c.self.inside.logged.items c.len-i.result c.args.block.0 (omega (arith, c.len-i.ensures));
}

pub loop-i-preserved : goal.loop-i-preserved
loop-i-preserved c = record {
  end = omega (arith, c.loop-i.invariant.end);
  none = other_block c.self.inside.logged.items c.loop-i.i (c.loop-i.i - 1) c.index-change.result.now c.args.block.0
      (omega (arith, c.loop-i.invariant.end)) (omega arith) c.index-change.ensures (sym c.if-eq.ensures)
      c.loop-i.invariant.none;
}

pub returns-then-eq : goal.returns-then-eq
returns-then-eq c =
    subst (λ xs. newest_in xs c.args.block.0 ≡ Some c.index-change.result.now.1) c.self.view_is
    (same_block c.self.inside.logged.items c.loop-i.i (c.loop-i.i - 1) c.index-change.result.now c.args.block.0
    (omega (arith, c.loop-i.invariant.end)) (omega arith) c.index-change.ensures (sym c.if-eq.ensures)
    c.loop-i.invariant.none)

pub returns : goal.returns
returns c =
    let end : c.loop-i.i ≡ 0 = omega (arith, c.loop-i-test.false) in
    subst (λ xs. newest_in xs c.args.block.0 ≡ None) c.self.view_is
    (subst (λ n. newest_in (drop n c.self.inside.logged.items) c.args.block.0 ≡ None) end c.loop-i.invariant.none)
