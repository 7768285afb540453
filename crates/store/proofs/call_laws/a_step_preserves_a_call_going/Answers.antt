use Rattle.std.proofs.Common.{◌++◌, option_to_list, refl, subst, sym}
use Rattle.store.specs.Runs.AtWork.{fetches_of}
use Rattle.store_workers.specs.Stages.{IsWorkerAt, progress_of}
use Rattle.store_workers.specs.WorkerSteps.{worker_and_core}
use Rattle.store.proofs.CallStages.{waits_served}
use Rattle.store.proofs.CallSteps.{state_agrees, run, s, stepped, store, t}
use Rattle.store.proofs.call_laws.a_step_preserves_a_call_going.Goals as goal

pub returns-clause-goes : goal.returns-clause-goes
returns-clause-goes c = λ o now worker new made calling goes home reads lawful well_formed with.
    let entries = o.entries ++ option_to_list calling.entry in
    let setting = s o now worker new made calling in
    let run_state = t o now worker new made calling in
    let so_far = store o now worker new made calling in
    let runs = run o now worker new made calling in
    let old = worker_and_core worker now.core in
    let since = calling.opened.since in
    let tells_so = state_agrees setting now refl in
    let stands : IsWorkerAt now.boot entries worker =
    subst (λ n. IsWorkerAt n entries worker) (sym calling.boot) calling.stands in
    stepped o now worker new made calling
    (c.a_workers_step_may_be_made.ensures setting run_state 0 calling.base so_far (fetches_of worker)
    now.boot o.first
    calling.last entries runs tells_so (λ other differs. refl) runs.inodes worker new made goes calling.at_work
    stands)
    (c.a_worker_tells_its_steps.ensures now.boot 0 entries old new made stands since.boot_is (sym since.counted)
    goes)
    (c.a_workers_step_moves_the_state.ensures setting run_state 0 so_far tells_so worker new since.over.lawful
    lawful runs.position made goes)
    (c.a_core_at_work_stays_so.ensures old new made now.boot entries calling.at_work stands
    since.over.well_formed reads goes with) goes c.counts_make_one_geometry.ensures
    (λ uncommitted. c.a_worker_leaves_the_run_going.ensures.log_unchanged setting calling.base so_far
    worker new now.boot
    o.first calling.last entries made runs goes home lawful well_formed uncommitted)
    (λ has. c.a_worker_leaves_the_run_going.ensures.committed setting calling.base so_far worker new
    now.boot 0 o.first
    calling.last entries made runs goes home lawful well_formed stands has)
    c.an_open_store_preserves_its_files.ensures.longer

pub returns-clause-served : goal.returns-clause-served
returns-clause-served c = λ o now worker new made calling goes waits.
    let entries = o.entries ++ option_to_list calling.entry in
    let setting = s o now worker new made calling in
    let run_state = t o now worker new made calling in
    let so_far = store o now worker new made calling in
    let runs = run o now worker new made calling in
    let stands : IsWorkerAt now.boot entries worker =
    subst (λ n. IsWorkerAt n entries worker) (sym calling.boot) calling.stands in
    waits_served o now setting run_state calling.entry calling.last calling.comes (progress_of worker) made
    calling.so_far
    (c.a_workers_step_may_be_made.ensures setting run_state 0 calling.base so_far (fetches_of worker)
    now.boot o.first
    calling.last entries runs (state_agrees setting now refl) (λ other differs. refl) runs.inodes worker new made goes
    calling.at_work stands) waits
