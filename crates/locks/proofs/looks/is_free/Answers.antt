use Rattle.std.proofs.Common.{◌≡◌, ◌-◌, ◌<◌, ℕ, refl, arith, subst}
use Rattle.std.proofs.lemmas.List.{get_or_read}
use Rattle.locks.specs.Looks.{LetsPass}
use Rattle.locks.specs.Walks.{IsPassed}
use Rattle.locks.proofs.IndexLemmas.{numbers-length}
use Rattle.locks.proofs.Walks.{all_free, begun, stepped}
use Rattle.locks.proofs.looks.is_free.Goals as goal

pub loop-name-init : goal.loop-name-init
loop-name-init c =
    begun (LetsPass c.args.transaction c.args.addr c.args.mode) c.args.holds.now c.args.addr.block.0
    c.last_of-name.result c.last_of-name.ensures

pub loop-name-preserved : goal.loop-name-preserved
loop-name-preserved c =
    let some : 0 < c.loop-name.name = omega arith in
    let within = c.loop-name.invariant.within in
    let size = numbers-length c.args.holds.now in
    let each = c.requires.each in
    stepped (LetsPass c.args.transaction c.args.addr c.args.mode) c.args.holds.now c.args.index.now.last.items
    c.args.index.now.before.items c.args.addr.block.0 c.loop-name.name c.index-name.result.now
    c.index-holds-name.result c.requires c.loop-name.invariant some
    (get_or_read c.args.index.now.before.items (c.loop-name.name - 1) c.index-name.result.now
    (omega (arith, some, within, size, each)) c.index-name.ensures 0)
    (subst (LetsPass c.args.transaction c.args.addr c.args.mode) c.index-holds-name.is
    (c.lets_pass.ensures.0 c.if-not-lets_pass.false))

pub returns : goal.returns
returns c =
    let end : c.loop-name.name ≡ 0 = omega arith in (
      (λ is. all_free c.args.holds.now c.args.transaction c.args.addr c.args.mode
          (subst (λ (n : ℕ). IsPassed (LetsPass c.args.transaction c.args.addr c.args.mode) c.args.holds.now
          c.args.addr.block.0 n) end c.loop-name.invariant)),
      λ free. refl,
    )
