use Rattle.std.proofs.Common.{rules, sym, subst, ◌<◌, ℕ, All, length, set}
use Rattle.store_workers.specs.Worker.{ReadsWithin}
use Rattle.store_workers.specs.declared.workers.Worker.{Worker}
use Rattle.store.specs.Runs.Running.{AreWithin}
use Rattle.store.proofs.RunsLemmas.MovesOne.{all_get, all_set, moves_one}
use Rattle.store.proofs.runs.runs.run_events.Running.work.Goals as goal

pub returns-clause-well : goal.returns-clause-well
returns-clause-well g c =
    let workers = c.args.self.now.workers.items in
    let old = c.args.self.now.store.core in
    let blocks = sym c.work_of.ensures.frame.blocks in
    let inside : c.args.worker < length workers = search rules in
    let reads = all_set (λ w. ReadsWithin old.log.blocks w.state) workers c.args.worker c.work_of.new.one
    c.requires.well.reads (c.work_of.ensures.reads
    (all_get (λ w. ReadsWithin old.log.blocks w.state) workers c.args.worker c.index_mut.result.now
    c.requires.well.reads inside c.index_mut.ensures.value)) in
    record {
      reads = subst (λ (n : ℕ). All (λ (w : Worker). ReadsWithin n w.state)
          (set workers c.args.worker c.work_of.new.one)) blocks reads;
      within = subst (λ (n : ℕ). AreWithin n c.args.self.now.calls) blocks c.requires.well.within;
    }

pub returns-clause-step : goal.returns-clause-step
returns-clause-step g c = λ there.
    moves_one c.args.self.now.workers.items c.args.worker _ c.index_mut.result.now c.work_of.new.one there
    c.index_mut.ensures.value (c.work_of.ensures.step, c.work_of.ensures.core)
