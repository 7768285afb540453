use Rattle.std.proofs.Common.{rules, ◌≡◌, Bool, List, length, sym, subst, ◌∙◌, not, nat_eq}
use Rattle.std.specs.List.{filter}
use Rattle.std.proofs.lemmas.Fn.{filter_same}
use Rattle.txn_law.specs.declared.hold.Hold.{Hold}
use Rattle.locks.specs.Index.{AreHomed, numbers}
use Rattle.locks.proofs.IndexLemmas.{homed_filter}
use Rattle.locks.proofs.acquire.release.Goals as goal

pub track_all-requires-clause-homed : goal.track_all-requires-clause-homed
track_all-requires-clause-homed c =
    let keep : Hold → Bool = λ (hold : Hold). not (nat_eq hold.transaction c.args.transaction) in
    let is_preserved : c.retain.new.self.items ≡ filter keep c.args.holds.now.items =
    filter_same _ keep _ (λ x b f r. search rules) _ _ c.retain.ensures.filtered in
    subst (λ (xs : List Hold). AreHomed (length c.args.index.now.last.items) (numbers xs))
    (sym (c.deref.ensures.value ∙ is_preserved))
    (homed_filter keep (length c.args.index.now.last.items) c.args.holds.now.items c.requires.index.homed)

pub returns-clause-holds : goal.returns-clause-holds
returns-clause-holds c = filter_same _ (λ (hold : Hold). not (nat_eq hold.transaction c.args.transaction)) _
    (λ x b f r. search rules) _ _ c.retain.ensures.filtered
