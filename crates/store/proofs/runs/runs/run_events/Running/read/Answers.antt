use Rattle.std.proofs.Common.{Some, refl, ap, sym, subst, true≢false}
use Rattle.store.specs.Runs.Running.{PreservesFits, MovesOne}
use Rattle.store_workers.specs.WorkerReads.{MakesRead}
use Rattle.store_workers.specs.declared.workers.Worker.{Worker}
use Rattle.store.proofs.RunsLemmas.MovesOne.{moves_one}
use Rattle.store.proofs.runs.runs.run_events.Running.read.Goals as goal

pub returns-in_err-step-clause-step : goal.returns-in_err-step-clause-step
returns-in_err-step-clause-step g c = λ there.
    let read = c.in_err-step.ensures in
    moves_one c.args.self.now.workers.items c.args.worker _ c.index_mut.result.now c.read.new.self there
    c.index_mut.ensures.value (
      subst (λ made. MakesRead (g.D.CrashDisk.keeps_model c.read.new.disk)
          (g.D.CrashDisk.device c.args.self.now.store.disk) c.index_mut.result.now.state made
          (g.D.CrashDisk.device c.read.new.disk) c.read.new.self.state) (sym c.from_residual.ensures)
          (ap (λ (w : Worker). w.state) read.step.0, read.step.1, λ reading. true≢false (sym (read.due.1 reading))),
      c.read.ensures.fits,
    )

pub returns-clause-step : goal.returns-clause-step
returns-clause-step g c = λ there.
    let read = c.in_ok-step.ensures in
    subst (λ r. MovesOne c.args.self.now.workers.items c.args.worker (λ (old new : Worker).
    MakesRead (g.D.CrashDisk.keeps_model r.store.disk) (g.D.CrashDisk.device c.args.self.now.store.disk) old.state
    (Some c.in_ok-step.step) (g.D.CrashDisk.device r.store.disk) new.state
    × PreservesFits old new) r.workers.items) (sym c.count.ensures)
    (moves_one c.args.self.now.workers.items c.args.worker _ c.index_mut.result.now c.read.new.self there
    c.index_mut.ensures.value ((read.due.0 refl, read.step), c.read.ensures.fits))
