use Rattle.std.proofs.Common.{◌≡◌, ◌-◌, ◌<◌, ℕ, get_or, true, false, sym, arith, subst}
use Rattle.std.proofs.lemmas.List.{get_or_read}
use Rattle.txn_law.specs.Holds.{is_hold_of}
use Rattle.txn_law.specs.declared.hold.Hold.{Hold}
use Rattle.locks.specs.Walks.{IsPassed}
use Rattle.locks.proofs.IndexLemmas.{numbers-length}
use Rattle.locks.proofs.Walks.{begun, default, none_held, stepped}
use Rattle.locks.proofs.looks.name_of.Goals as goal

pub loop-name-init : goal.loop-name-init
loop-name-init c =
    begun (λ (hold : Hold). is_hold_of c.args.transaction c.args.addr hold ≡ false) c.args.holds.now
    c.args.addr.block.0 c.last_of-name.result c.last_of-name.ensures

pub loop-name-preserved : goal.loop-name-preserved
loop-name-preserved c =
    let some : 0 < c.loop-name.name = omega arith in
    let within = c.loop-name.invariant.within in
    let size = numbers-length c.args.holds.now in
    let each = c.requires.each in
    stepped (λ (hold : Hold). is_hold_of c.args.transaction c.args.addr hold ≡ false) c.args.holds.now
    c.args.index.now.last.items c.args.index.now.before.items c.args.addr.block.0 c.loop-name.name
    c.index-name.result.now c.index-holds-name.result c.requires c.loop-name.invariant some
    (get_or_read c.args.index.now.before.items (c.loop-name.name - 1) c.index-name.result.now
    (omega (arith, some, within, size, each)) c.index-name.ensures 0)
    (subst (λ (hold : Hold). is_hold_of c.args.transaction c.args.addr hold ≡ false) c.index-holds-name.is
    (sym c.if-is_hold_of.ensures))

pub returns-then-is_hold_of : goal.returns-then-is_hold_of
returns-then-is_hold_of c =
    let some : 0 < c.loop-name.name = omega arith in
    let within = c.loop-name.invariant.within in
    let mine : is_hold_of c.args.transaction c.args.addr (get_or c.args.holds.now (c.loop-name.name - 1)
    c.index-holds-name.result) ≡ true =
    subst (λ (hold : Hold). is_hold_of c.args.transaction c.args.addr hold ≡ true) c.index-holds-name.is
    (sym c.if-is_hold_of.ensures) in
    record {
      within = within;
      mine = λ _ d.
          subst (λ (hold : Hold). is_hold_of c.args.transaction c.args.addr hold ≡ true)
          (default c.args.holds.now (c.loop-name.name - 1) c.index-holds-name.result d
          (omega (arith, some, within))) mine;
      none = λ e. absurd (omega (arith, e, some));
    }

pub returns : goal.returns
returns c =
    let end : c.loop-name.name ≡ 0 = omega arith in
    record {
      within = omega arith;
      mine = λ some d. absurd (omega (arith, some));
      none = λ _. none_held c.args.holds.now c.args.transaction c.args.addr
          (subst (λ (n : ℕ). IsPassed (λ (hold : Hold). is_hold_of c.args.transaction c.args.addr hold ≡ false)
          c.args.holds.now c.args.addr.block.0 n) end c.loop-name.invariant);
    }
