-- The read that was due was made, or none was.
use Rattle.std.proofs.Common.{ap, subst, sym, Bool}
use Rattle.pool.proofs.SeatedSteps.{reads}
use Rattle.pool.specs.Stepping.{ReadsFrom}
use Rattle.pool.specs.Working.{Working}
use Rattle.pool.proofs.work.Work.read_from.Goals as goal

pub returns-clause-read : goal.returns-clause-read
returns-clause-read g c =
    let before = g.S.Source.calls c.args.source.now in
    let after = g.S.Source.calls c.read_from.new.source in
    let made = reads c.read_from.result before after c.args.self.now c.self.inside.worker c.read_from.new.self
    (ap (λ (w : Working). w.worker) c.self.view_is) c.read_from.ensures.step in
    let proven = subst (λ (b : Bool). ReadsFrom b before c.args.self.now after
    (record c.args.self.now { worker = c.read_from.new.self.state })) (sym c.is_some.ensures) made in
    subst (λ (w : Working). ReadsFrom c.is_some.result before c.args.self.now after
    (record w { worker = c.read_from.new.self.state })) (sym c.self.view_is) proven
