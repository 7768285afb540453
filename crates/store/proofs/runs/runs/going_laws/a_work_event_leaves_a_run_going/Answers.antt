use Rattle.std.proofs.Common.{◌≡◌, ◌∙◌, ◌+◌, ◌≤◌, ap, sym, subst, ℕ, zero, suc, Bool, true, false, All, List, [], ◌∷◌}
use Rattle.std.proofs.Common.{refl, not, ◌&&◌, arith, length, None, slice_get}
use Rattle.std.proofs.lemmas.List.{length-map, take_all}
use Rattle.std.proofs.lemmas.List.Elements.{All-nil}
use Rattle.txn_law.specs.Window.{Footprint, after_commits, opening}
use Rattle.layout.specs.declared.geometry.Geometry.{Geometry}
use Rattle.layout.specs.Homes.{homes_of}
use Rattle.store_promise.proofs.KnownLockRequests.{taken_well}
use Rattle.store_promise.proofs.RunStates.{idle_beyond}
use Rattle.store_promise.specs.declared.events.Event.TheVariants as event
use Rattle.store_promise.specs.OpenSince.{file_blocks}
use Rattle.store_promise.specs.Progress.{is_idle}
use Rattle.store_promise.specs.Running.{IsFetchOver}
use Rattle.store_promise.specs.Schedule.{Setting}
use Rattle.store_promise.specs.Transcript.{entries_of, transcript_of}
use Rattle.store_promise.specs.Waiting.{HasTakenWell}
use Rattle.store_law.specs.Runs.Tracing.{state_now}
use Rattle.store.specs.Runs.AtWork.{IsAtWork, fetches_of, with_core}
use Rattle.store_workers.proofs.LeavesOthers.{leaves_others, reported_leaves}
use Rattle.store_workers.proofs.ShareCore.{none_beyond}
use Rattle.store_workers.specs.Unaffected.{LeavesOthers}
use Rattle.store_workers.specs.Stages.{progress_of}
use Rattle.store_workers.specs.Worker.{GoesWith}
use Rattle.store_workers.specs.WorkerSteps.{PreservesHomeOf, PreservesReadsOf, worker_and_core}
use Rattle.store_workers.specs.declared.workers.parts.Phase.TheVariants.{Planning}
use Rattle.store_workers.specs.declared.workers.parts.State.{State}
use Rattle.store.proofs.RunsLemmas.AtWorkGoes.{none_left}
use Rattle.store.proofs.RunsLemmas.AtWorkMay.{step_may_by}
use Rattle.store.proofs.RunsLemmas.AtWorkStays.{at_work_on}
use Rattle.store.proofs.RunsLemmas.GoingUncommitted.{Leaves, left_going}
use Rattle.store.proofs.RunsLemmas.GoingUncommitted.{goes as goes_uncommitted, goes_on as goes_on_uncommitted}
use Rattle.store.proofs.RunsLemmas.GoingOn.{only_step, with_fetches}
use Rattle.store.proofs.RunsLemmas.GoingWork.{goes, goes_on, left_by, traced, tracing, stand}
use Rattle.store.proofs.RunsLemmas.LockDeferred.{is_caused, left_at}
use Rattle.store.proofs.runs.runs.going_laws.a_work_event_leaves_a_run_going.Goals as goal

-- a number of none of them is no less than their count
past_end : {X : Type 0} (xs : List X) (number : ℕ) → slice_get xs number ≡ None → length xs ≤ number
past_end [] number none = omega arith
past_end (x ∷ xs) zero none = cc
past_end (x ∷ xs) (suc number) none = let past = past_end xs number none in omega (arith, past)

pub returns-clause-goes : goal.returns-clause-goes
returns-clause-goes c =
    λ b number clock store workers later worker new core made before mid after is_next going list clock_is worked
    is_preserved last_trace.
    let t = transcript_of before in
    let o = going.setting in
    let entries = entries_of t in
    let boot = b.first + 1 in
    let state_until_now = state_now b.events t in
    let old = worker_and_core worker store.core in
    let step_to = worker_and_core worked.state core in
    let run = going.run.running in
    let d = store.device in
    let share = going.so_far.share in
    let so = going.so_far.each number worker list.was in
    let with_own = with_fetches o going.base store [] (fetches_of worker) boot b.tree going.last entries run so.fetched in
    let own_out = so.at_work.with.core_of.out in
    let pending = share.fetched number worker list.was in
    let one_geometry = c.counts_make_one_geometry.ensures in
    let reads = subst (λ (s : State). PreservesReadsOf old (worker_and_core s core)) worked.taken is_preserved.reads in
    let beyond = none_beyond store.core workers run.since.over.well_formed share in
    let left_of = left_at o.geometry store.core worker
    (subst (HasTakenWell o.geometry) so.progress
    (taken_well o b.workers b.events t.steps going.run.well.taken (length t.steps) number))
    run.newest run.blocks run.inodes one_geometry so.at_work.plans in
    let counted : store.core.log.places ≡ length before.history.items =
    sym run.since.counted ∙ length-map before.history.items _ in
    let traces = c.a_run_traces_its_workers_steps.ensures boot number clock old (worker_and_core new core) made before
    mid so.stands run.since.boot_is counted worked in
    let all_placed : store.core.log.places ≡ _ = sym run.since.over.files.home.window.all in
    let before_it : o.blocks store.core.log.places ≡ file_blocks going.base store.core =
    ap o.blocks all_placed
    ∙ run.placed (length store.core.records)
    ∙ ap (λ (rs : List Footprint). after_commits
    (homes_of store.core.log.blocks (opening going.base store.core.log)) rs)
    (take_all (length store.core.records) store.core.records (omega arith)) in
    let caused = is_caused boot entries state_until_now workers number old step_to run.since.over.well_formed share list.was
    (λ other w is. let its = going.so_far.each other w is in (its.progress, its.stands, its.at_work))
    (λ other none. idle_beyond o b.workers b.events t.steps going.run.well.taken other
    (let past = past_end workers other none in let count = going.so_far.count in omega (arith, past, count))
    (length t.steps)) left_of own_out made worked.goes so.at_work.with.sound.fetch so.at_work.plans in
    let may = step_may_by o state_until_now number going.base store (fetches_of worker) boot b.tree going.last entries
    with_own going.run.is_run_state run.inodes worker step_to one_geometry own_out left_of
    (λ (planning : worker.phase ≡ Planning). so.at_work.traces) made worked.goes so.at_work.plans
    so.at_work.loads so.stands caused in
    let state_agrees_then = c.a_workers_step_moves_the_state.ensures o state_until_now number store going.run.is_run_state
    worker step_to run.since.over.lawful is_preserved.lawful run.position made worked.goes in
    let at_work = subst (λ (s : State). IsAtWork s core) (sym worked.taken)
    (at_work_on old step_to made boot entries so.at_work so.stands beyond left_of pending reads worked.goes
    (subst (λ (s : State). GoesWith s core) worked.taken (is_preserved.with so.at_work.with))) in
    let home : PreservesHomeOf old step_to = is_preserved.home in
    let left =
    left_by b number clock store workers later worker new core made before mid after is_next going list clock_is
    worked is_preserved last_trace traces may worked.taken
    (λ uncommitted. with_fetches o going.base (with_core store core) (fetches_of worked.state) [] boot b.tree going.last
    entries (c.a_worker_leaves_the_run_going.ensures.log_unchanged o going.base store worker
    step_to boot b.tree
    going.last entries made with_own worked.goes home is_preserved.lawful is_preserved.well_formed uncommitted).0
    (All-nil (IsFetchOver going.base core))) (λ has.
    let goes = c.a_worker_leaves_the_run_going.ensures.committed o going.base store worker step_to boot number b.tree
    going.last entries made with_own worked.goes home is_preserved.lawful is_preserved.well_formed so.stands has in (
      goes,
      c.what_is_held_is_what_the_files_are.ensures.stands going.base d core store.logging store.installing boot
          b.tree goes.left _ goes.runs.since,
    ))
    one_geometry (ap o.blocks (sym counted) ∙ before_it)
    (tracing boot number clock (progress_of worker) made before mid traces.history) in
    let many = traced b number clock store workers later worker new core made before mid after is_next going list
    clock_is worked is_preserved last_trace traces may in
    let step = goes b number clock store workers later worker new core made before mid after is_next going list
    clock_is worked is_preserved last_trace traces may left state_agrees_then
    (c.a_device_counts_the_calls_of_its_steps.ensures.none d made) in
    let others = subst (λ (s : State). LeavesOthers old (worker_and_core s core)) (sym worked.taken)
    (reported_leaves old worked.state core (leaves_others old step_to reads own_out pending made
    so.at_work.with.sound.transaction so.at_work.with.sound.fetch worked.goes)) in
    let fetched = subst (λ found. All (IsFetchOver going.base core) found)
    (sym (ap fetches_of worked.taken ∙ none_left old step_to made worked.goes)) (All-nil (IsFetchOver going.base core)) in
    let same = ap (λ (s : Setting). s.geometry) left.setting in
    goes_on b number clock store workers later worker new core made before mid after is_next going list clock_is worked
    is_preserved last_trace traces may left
    state_agrees_then (c.a_device_counts_the_calls_of_its_steps.ensures.none d made)
    (c.a_run_goes_on.ensures b o left.later t going.base going.base store _ [] []
    going.last left.next many going.run step)
    (c.what_is_traced_grows.ensures.state_follows b t (event.Work number) many is_next.next)
    (stand b number clock store workers later worker new core made before mid after is_next going list clock_is worked
    is_preserved last_trace traces may others
    (sym left.running.blocks ∙ ap (λ (g : Geometry). g.blocks) same ∙ run.blocks)
    (sym left.running.inodes ∙ ap (λ (g : Geometry). g.inodes) same ∙ run.inodes) at_work fetched)

-- ---- a worker that isn't there

no_end : (t : Bool) → (not t && t) ≡ false
no_end true = refl
no_end false = refl

pub returns-clause-absent : goal.returns-clause-absent
returns-clause-absent c = λ b number store workers before after is_next other traces going.
    let t = transcript_of before in
    let o = going.setting in
    let now = event.Work number in
    let left : Leaves b now o going.base going.last t store store None workers =
    left_going b now store workers before going
    (λ there. other (let count = going.so_far.count in omega (arith, there, count)))
    (c.a_device_counts_the_calls_of_its_steps.ensures.none store.device None refl) in
    let moved = goes_uncommitted b now store store None workers workers before after is_next traces going left
    (record { entry = refl; answer = no_end (is_idle ((state_now b.events t).workers number)) }) in
    goes_on_uncommitted b now store store None workers workers before after is_next traces going left
    (c.a_run_goes_on.ensures b o o t going.base going.base store store [] []
    going.last going.last (only_step None) going.run moved)
    (c.what_is_traced_grows.ensures.state_follows b t now (only_step None) is_next.next)
