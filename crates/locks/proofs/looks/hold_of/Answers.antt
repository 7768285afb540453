use Rattle.std.proofs.Common.{◌-◌, ◌<◌, Some, ap, arith, ◌∙◌}
use Rattle.txn_law.specs.declared.hold.Hold.{Hold}
use Rattle.locks.proofs.Walks.{one_held}
use Rattle.locks.proofs.looks.hold_of.Goals as goal

pub returns-then-name-gt0 : goal.returns-then-name-gt0
returns-then-name-gt0 c =
    let some : 0 < c.name_of-name.result = omega arith in
    let within = c.name_of-name.ensures.within in
    ap (λ (hold : Hold). Some hold) c.index-holds-name.is
    ∙ one_held c.args.holds.now c.args.transaction c.args.addr (c.name_of-name.result - 1) c.index-holds-name.result
    c.requires.apart (omega (arith, some, within)) (c.name_of-name.ensures.mine some c.index-holds-name.result)
