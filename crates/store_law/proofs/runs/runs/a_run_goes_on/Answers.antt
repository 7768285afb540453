use Rattle.std.proofs.Common.{ℕ, ◌+◌, ap, sym, ◌∙◌, subst, ◌∷◌, []}
use Rattle.store_promise.specs.LogState.{state_settled}
use Rattle.store_promise.specs.Transcript.{entries_of}
use Rattle.store_promise.specs.Headline.{IsGeometryOf}
use Rattle.store_promise.specs.Openings.{IsOpened}
use Rattle.store_promise.specs.Running.{IsRunState}
use Rattle.store_promise.specs.Schedule.{Setting, RunState}
use Rattle.store_law.proofs.RunsLemmas.Before.{state_stays}
use Rattle.store_law.proofs.RunsLemmas.ChangesGrow.{changes_on}
use Rattle.store_law.proofs.RunsLemmas.Did.{did_on}
use Rattle.store_law.proofs.RunsLemmas.Stops.{left_now, past_then}
use Rattle.store_law.proofs.runs.runs.a_run_goes_on.Goals as goal

pub returns : goal.returns
returns c = λ b o later t base home store_state new fetches left last next traced run goes.
    let traces = c.what_is_traced_grows.ensures in
    let settled_is = ap (λ log. state_settled log) run.is_run_state.log
    ∙ c.log_state_has_what_is_settled.ensures o.position store_state.core.log store_state.logging store_state.installing
    run.running.since.over.lawful in
    record {
      opens = subst (λ (at : ℕ). IsOpened b.before b.opened b.tree b.first at)
          (sym (ap (λ (s : Setting). s.position) goes.same)) run.opens;
      geometry = subst (λ g. IsGeometryOf b.opened.size b.tree g)
          (sym (ap (λ (s : Setting). s.geometry) goes.same)) run.geometry;
      running = goes.running;
      is_run_state = subst (λ (run_state : RunState). IsRunState later run_state new)
          (sym (traces.state_follows b t goes.event traced goes.next)) goes.is_run_state;
      moved = c.a_device_counts_the_calls_of_its_steps.ensures.step b.opened store_state.device new.device
          t.steps traced.made run.moved goes.device;
      did = did_on b.events t traced b.opened.clock store_state.device new.device run.moved.calls goes.device.past
          goes.device.calls run.did goes.does;
      boot = run.boot;
      leads = goes.leads;
      files = goes.files;
      changes = changes_on b.opened.size b.events t goes.event traced run.well.history goes.traces.entry
          o.blocks later.blocks goes.blocks run.changes goes.changes;
      well = traces.well b o later t goes.event traced goes.next run.well goes.same goes.blocks
          goes.taken goes.traces;
      past = past_then b o later t base home store_state new fetches left last next traced run goes
          (λ index within. state_stays b.events t.steps (traced.made ∷ []) index within)
          (λ image crash. left_now b o t base store_state fetches last run image
          (c.a_stop_leaves_a_beginning.ensures.blocks base store_state.device store_state.core store_state.logging store_state.installing
          (b.first + 1) b.tree last (entries_of t) image run.running.since crash) settled_is);
    }
