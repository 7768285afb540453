use Rattle.std.proofs.Common.{Some, ◌≡◌, ◌∙◌, sym, subst}
use Rattle.store_workers.specs.Knowing.{Knowing, first_of}
use Rattle.store_workers.proofs.Placing.{next_free}
use Rattle.store_workers.proofs.workers.known.Known.bars.Goals as goal

pub returns-clause-next : goal.returns-clause-next
returns-clause-next c = λ is.
    c.any_bars.ensures
    ∙ next_free c.self.inside.lock_requests.items c.self.inside.taken c.args.request c.self.invariant.1
    (subst (λ (k : Knowing). first_of k.left ≡ Some c.args.request) (sym c.self.view_is) is)
