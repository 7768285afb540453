use Rattle.std.proofs.Common.{refl, ap, sym, ◌∙◌, true≢false}
use Rattle.store_workers.specs.declared.workers.Worker.{Worker}
use Rattle.store.proofs.RunsLemmas.MovesOne.{moves_one}
use Rattle.store.proofs.runs.runs.run_events.Running.hand.Goals as goal

pub returns-then-hand-clause-step : goal.returns-then-hand-clause-step
returns-then-hand-clause-step g c = λ there sound fits.
    moves_one c.args.self.now.workers.items c.args.worker _ c.index_mut.result.now c.hand.new.self there
    c.index_mut.ensures.value
    ((refl, c.hand.ensures.taken.0 c.if-hand.true, c.hand.ensures.took c.if-hand.true), c.hand.ensures.fits)

pub returns-else-hand-clause-step : goal.returns-else-hand-clause-step
returns-else-hand-clause-step g c = λ there sound fits.
    moves_one c.args.self.now.workers.items c.args.worker _ c.index_mut.result.now c.hand.new.self there
    c.index_mut.ensures.value (
      (
        ap (λ (w : Worker). w.state) (c.hand.ensures.busy c.if-hand.false),
        λ idle. true≢false (sym (c.hand.ensures.taken.1 idle) ∙ c.if-hand.false),
      ),
      c.hand.ensures.fits,
    )
