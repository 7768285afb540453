use Rattle.std.proofs.Common.{rules, ◌≡◌, ◌∙◌, ap, sym, subst, ◌<◌, ◌++◌, ◌∷◌, [], length, length-append, arith}
use Rattle.std.proofs.lemmas.List.{append_assoc}
use Rattle.std.specs.Vec.Iter.{into_iter_items}
use Rattle.store_promise.specs.Headline.{PreservesPromise}
use Rattle.store_promise.specs.OpenSince.{file_blocks}
use Rattle.store_promise.specs.Schedule.{Setting}
use Rattle.store_promise.specs.Transcript.{refusals, transcript_of}
use Rattle.store.specs.Runs.Going.{HasGone, begins, store_and_workers}
use Rattle.std.proofs.lemmas.List.{length-map}
use Rattle.layout.specs.Geometry.{IsLawful}
use Rattle.store.specs.Runs.Running.{states_of}
use Rattle.store_workers.specs.declared.workers.Worker.{Worker}
use Rattle.store.proofs.RunsLemmas.WholeRun.{all_at_rest, first_going, gone_on, promise_preserved, refused_before}
use Rattle.store.proofs.runs.runs.run.Goals.{in-None, in-Some+then-not-take}
use Rattle.store.proofs.runs.runs.run.Goals as goal

pub returns-in-Err-open-clause-promised : goal.returns-in-Err-open-clause-promised
returns-in-Err-open-clause-promised g c = λ tree first may.
    c.in-Err-open.ensures.preserves tree first (record { rest = may.rest; good = may.good }) may.model

pub returns-in-Err-clause-promised : goal.returns-in-Err-clause-promised
returns-in-Err-clause-promised g c = λ tree first may.
    refused_before (g.D.CrashDisk.keeps_model c.args.disk) (g.D.CrashDisk.device c.args.disk) tree first
    c.args.events.items (g.met.D.CrashDisk.whole c.args.disk may.model) may

pub events-init : goal.events-init
events-init g c =
    let store = c.in-Ok-open.store in
    let made = c.new-running.result in
    let same = c.new-running.ensures.store in
    let before = g.D.CrashDisk.device c.args.disk in
    let opened = g.D.CrashDisk.device store.disk in (
      c.new-running.ensures.well,
      λ preserves. c.in-Ok-open.ensures.model (subst (λ s. g.D.CrashDisk.keeps_model s.disk) same preserves),
      search rules,
      ap (λ steps. length steps) c.new-run.ensures.empty.2,
      λ tree first may.
          let preserves = subst (λ s. g.D.CrashDisk.keeps_model s.disk) same may.model in
          let opens = c.in-Ok-open.ensures.preserves tree first (record { rest = may.rest; good = may.good }) preserves in
          let b = begins before opened tree first c.args.workers c.args.events.items in
          let begun = c.a_run_begins.ensures b opens.3 store.core opens.1 opens.2 opens.4 in
          let o : Setting = record {
            geometry = begun.0;
            position = opens.1;
            blocks = λ place. file_blocks opens.3 store.core;
          } in
          let out : store.core.out ≡ [] = search rules in
          let going = first_going b o opens.3 store.core (states_of made.workers.items) store.boot made.calls
          c.new-run.result begun.1 out
          opens.4.present opens.0 c.new-running.ensures.calls
          (c.new-run.ensures.boot ∙ c.boot.ensures) c.new-run.ensures.empty
          (length-map made.workers.items (λ (w : Worker). w.state) ∙ c.new-running.ensures.count)
          (all_at_rest made.workers.items c.new-running.ensures.workers)
          (subst (λ s. IsLawful s.core.log.blocks s.core.inodes) same c.new-running.ensures.lawful) in
          let none = c.new-running.ensures.clock in
          subst (λ s. HasGone before tree first c.args.workers c.args.events.items
          (store_and_workers (g.D.CrashDisk.device s.disk) s.core made.calls made.workers.items made.clock)
          c.new-run.result) (sym same)
          (record { opened = opened; at = record { going = going; clock = omega (arith, none) } }),
    )

pub events-preserved : goal.events-preserved
events-preserved g c =
    let invariant = c.events.invariant in
    let before = g.D.CrashDisk.device c.args.disk in
    let old = c.events.running in
    let new = c.take.new.self in
    let items = invariant.2 ∙ ap (λ rest. c.events.yielded ++ rest) c.in-Some.ensures.steps.0 in (
      c.take.ensures.well,
      λ preserves. invariant.1 (c.take.ensures.model preserves),
      items ∙ sym (append_assoc c.events.yielded (c.in-Some.event ∷ []) (into_iter_items c.next.new.self)),
      (let steps_grow = c.take.ensures.steps_grow c.if-not-take.false in
          let so_far = invariant.3 in
          let long = length-append c.events.yielded (c.in-Some.event ∷ []) in
          omega (arith, steps_grow, so_far, long)),
      λ tree first may.
          gone_on before tree first c.args.workers c.args.events.items (g.D.CrashDisk.keeps_model new.store.disk)
          c.in-Some.event
          (store_and_workers (g.D.CrashDisk.device old.store.disk) old.store.core old.calls old.workers.items old.clock)
          (store_and_workers (g.D.CrashDisk.device new.store.disk) new.store.core new.calls new.workers.items new.clock)
          c.events.run c.take.new.run c.events.yielded _ may.model may items invariant.3
          (invariant.4 tree first (record {
            model = c.take.ensures.model may.model;
            rest = may.rest;
            good = may.good;
            sound = may.sound;
          })) c.take.ensures.goes,
    )

pub returns-clause-promised : goal.returns-clause-promised
returns-clause-promised g c = λ tree first may.
    let before = g.D.CrashDisk.device c.args.disk in
    let events = c.args.events.items in
    let invariant = c.events.invariant in
    let last = c.match-next.running in
    let run_record = c.match-next.run in
    let disk_is = c.close.ensures ∙ c.end.ensures in
    let preserves = subst g.D.CrashDisk.keeps_model disk_is may.model in
    let side = store_and_workers (g.D.CrashDisk.device last.store.disk) last.store.core last.calls
    last.workers.items last.clock in
    let old = c.events.running in
    let so_far : g.D.CrashDisk.keeps_model old.store.disk → HasGone before tree first c.args.workers events
    (store_and_workers (g.D.CrashDisk.device old.store.disk) old.store.core old.calls old.workers.items old.clock)
    c.events.run =
    λ is_preserved. invariant.4 tree first
    (record { model = is_preserved; rest = may.rest; good = may.good; sound = may.sound }) in
    let gone : HasGone before tree first c.args.workers events side run_record = elim c.match-next.branch [
      | in-None w ↦
          subst (λ r. HasGone before tree first c.args.workers events
          (store_and_workers (g.D.CrashDisk.device r.store.disk) r.store.core r.calls r.workers.items r.clock) run_record)
          (sym w.running-is)
          (subst (λ t. HasGone before tree first c.args.workers events
          (store_and_workers (g.D.CrashDisk.device old.store.disk) old.store.core old.calls
          old.workers.items old.clock) t) (sym w.run-is)
          (so_far (subst (λ r. g.D.CrashDisk.keeps_model r.store.disk) w.running-is preserves)))
      | in-Some+then-not-take w ↦
          let new = w.take.new.self in
          let is_preserved = subst (λ r. g.D.CrashDisk.keeps_model r.store.disk) w.running-is preserves in
          let items = invariant.2 ∙ ap (λ rest. c.events.yielded ++ rest) w.in-Some.ensures.steps.0 in
          subst (λ r. HasGone before tree first c.args.workers events
          (store_and_workers (g.D.CrashDisk.device r.store.disk) r.store.core r.calls r.workers.items r.clock) run_record)
          (sym w.running-is)
          (subst (λ t. HasGone before tree first c.args.workers events
          (store_and_workers (g.D.CrashDisk.device new.store.disk) new.store.core new.calls
          new.workers.items new.clock) t) (sym w.run-is)
          (gone_on before tree first c.args.workers events (g.D.CrashDisk.keeps_model new.store.disk) w.in-Some.event
          (store_and_workers (g.D.CrashDisk.device old.store.disk) old.store.core old.calls old.workers.items old.clock)
          (store_and_workers (g.D.CrashDisk.device new.store.disk) new.store.core new.calls new.workers.items new.clock)
          c.events.run w.take.new.run c.events.yielded _ is_preserved
          (record { model = is_preserved; rest = may.rest; good = may.good; sound = may.sound })
          items invariant.3
          (so_far (w.take.ensures.model is_preserved)) w.take.ensures.goes))
    ] in
    let all : length run_record.steps.items < length events → 0 < refusals run_record = λ short. elim c.match-next.branch [
      | in-None w ↦
          let it = c.events.event-iterator in
          let none = w.in-None.ensures.steps.0 in
          let left = it.rest.ok.0 in
          let steps_are = ap (λ run. length run.steps.items) w.run-is in
          let so_far = invariant.3 in
          let events_are = ap (λ es. length es) invariant.2 in
          let sum = length-append c.events.yielded (into_iter_items it) in
          absurd (omega (arith, none, left, steps_are, so_far, events_are, sum, short))
      | in-Some+then-not-take w ↦
          subst (λ run. 0 < refusals run) (sym w.run-is) (w.take.ensures.refused w.if-not-take.true)
    ] in
    record {
      preserves = subst (λ disk. PreservesPromise before (g.D.CrashDisk.device disk) tree first c.args.workers events
          (transcript_of run_record)) (sym disk_is)
          (promise_preserved before tree first c.args.workers events side run_record
          (g.met.D.CrashDisk.whole last.store.disk preserves) gone c.a_run_preserves_its_promise.ensures);
      all = all;
    }
