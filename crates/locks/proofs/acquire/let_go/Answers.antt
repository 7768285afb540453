use Rattle.std.proofs.Common.{◌≡◌, Bool, List, length, sym, subst, ◌∙◌, not, arith}
use Rattle.txn_law.specs.Holds.{is_hold_of, without_hold}
use Rattle.txn_law.specs.declared.hold.Hold.{Hold}
use Rattle.locks.specs.Index.{AreHomed, numbers}
use Rattle.locks.specs.Looks.{IsNameOf}
use Rattle.locks.proofs.IndexLemmas.{homed_filter}
use Rattle.locks.proofs.NoneLeft.{none_left}
use Rattle.locks.proofs.OneGone.{named_gone}
use Rattle.locks.proofs.acquire.let_go.Goals as goal

pub track_from-requires-clause-homed : goal.track_from-requires-clause-homed
track_from-requires-clause-homed c =
    let keep : Hold → Bool = λ (hold : Hold). not (is_hold_of c.args.transaction c.args.addr hold) in
    let more = c.cut.ensures.more in
    let homed : AreHomed (length c.cut.new.self.last.items) (numbers c.args.holds.now.items) =
    λ k lt. (let home = c.requires.index.homed k lt in omega (arith, home, more)) in
    let stays : c.remove.new.self.items ≡ without_hold c.args.holds.now.items c.args.transaction c.args.addr =
    c.remove.ensures.items
    ∙ named_gone c.args.holds.now.items c.deref.result.now c.args.transaction c.args.addr c.name_of-name.result
    c.remove.result c.requires.apart c.deref.ensures.value c.name_of-name.ensures (omega arith) in
    subst (λ (xs : List Hold). AreHomed (length c.cut.new.self.last.items) (numbers xs))
    (sym (c.deref-then-name-gt0-2.ensures.value ∙ stays))
    (homed_filter keep (length c.cut.new.self.last.items) c.args.holds.now.items homed)

pub returns-then-name-gt0-clause-items : goal.returns-then-name-gt0-clause-items
returns-then-name-gt0-clause-items c =
    c.remove.ensures.items
    ∙ named_gone c.args.holds.now.items c.deref.result.now c.args.transaction c.args.addr c.name_of-name.result
    c.remove.result c.requires.apart c.deref.ensures.value c.name_of-name.ensures (omega arith)

pub returns-else-name-gt0-clause-items : goal.returns-else-name-gt0-clause-items
returns-else-name-gt0-clause-items c =
    let is = subst (λ (holds : List Hold). IsNameOf holds c.args.transaction c.args.addr c.name_of-name.result)
    c.deref.ensures.value c.name_of-name.ensures in
    sym (none_left c.args.holds.now.items c.args.transaction c.args.addr (sym (is.none (omega arith))))
