use Rattle.std.proofs.Common.{◌+◌, [], refl, subst, is_ok, Some, None, arith}
use Rattle.std.proofs.lemmas.List.Elements.{All-nil}
use Rattle.store_promise.specs.declared.events.Event.TheVariants as event
use Rattle.store_promise.specs.declared.events.Step.TheVariants as step
use Rattle.store_promise.specs.Transcript.{entries_of, transcript_of}
use Rattle.store_promise.specs.Running.{IsFetchOver, StoreState}
use Rattle.store_law.specs.Runs.Tracing.{state_now}
use Rattle.store.specs.Runs.AtWork.{fetches_of}
use Rattle.store_workers.specs.Worker.{GoesWith}
use Rattle.store_workers.specs.WorkerReads.{with_read}
use Rattle.store_workers.specs.declared.workers.parts.State.{State}
use Rattle.store.proofs.RunsLemmas.GoingUncommitted.{Leaves, goes, goes_on, left_going}
use Rattle.store.proofs.RunsLemmas.GoingRead.{left_by, no_work, was_read}
use Rattle.store.proofs.RunsLemmas.GoingOn.{only_step, with_fetches}
use Rattle.store_images.proofs.LogSteps.{failed_is}
use Rattle.store.proofs.runs.runs.going_workers.a_read_leaves_a_run_going.Goals as goal

pub returns-clause-goes : goal.returns-clause-goes
returns-clause-goes c =
    λ b number store device workers later worker new made before after is_next list contents reads with traces going.
    let t = transcript_of before in
    let o = going.setting in
    let boot = b.first + 1 in
    let now = event.Read number in
    let d = store.device in
    let moves = c.a_device_counts_the_calls_of_its_steps.ensures in
    let so = going.so_far.each number worker list.was in
    let after_read : StoreState = record store { device = device } in
    let with_own = with_fetches o going.base store [] (fetches_of worker) boot b.tree going.last (entries_of t)
    going.run.running so.fetched in
    let left : Leaves b now o going.base going.last t store after_read made later =
    left_by b number (Unit {0}) store device workers later worker new before going list made reads
    (moves.none d None refl)
    (c.a_worker_tells_its_read.ensures.none boot (entries_of t) worker so.stands)
    (λ one phase read.
    let ok = is_ok read.answer in
    let brings = c.a_read_leaves_the_run_going.ensures.runs o going.base store device ok read.io read.content
    worker boot b.tree
    going.last (entries_of t) read.call (read.brings tt) contents with_own in
    was_read b number (Unit {0}) store device workers later worker new before going list one read phase
    (c.a_worker_tells_its_read.ensures.made boot (entries_of t) worker ok read.io read.content phase read.io_is
    so.stands)
    (moves.call d device (Some (step.Read read.io.block ok)) read.answer refl (failed_is read.answer ok refl)
    read.call.later read.failure)
    brings
    (with_fetches o going.base after_read (fetches_of (with_read ok read.io read.content worker)) [] boot b.tree
    going.last (entries_of t) brings (All-nil (IsFetchOver going.base store.core)))
    (c.a_read_leaves_the_run_going.ensures.state_stays_so o (state_now b.events t) number store device read.io.block ok
    going.run.is_run_state)
    (λ went. subst (λ (s : State). GoesWith s store.core) read.worker (with went))) in
    let moved = goes b now store after_read made workers later before after is_next traces going left
    (c.only_work_tells.ensures o b.workers b.events t now made (no_work number) left.taken) in
    goes_on b now store after_read made workers later before after is_next traces going left
    (c.a_run_goes_on.ensures b o o t going.base going.base store after_read [] []
    going.last going.last (only_step made) going.run moved)
    (c.what_is_traced_grows.ensures.state_follows b t now (only_step made) is_next.next)

pub returns-clause-absent : goal.returns-clause-absent
returns-clause-absent c = λ b number store workers before after is_next other traces going.
    let t = transcript_of before in
    let o = going.setting in
    let now = event.Read number in
    let left : Leaves b now o going.base going.last t store store None workers =
    left_going b now store workers before going
    (λ there. other (let count = going.so_far.count in omega (arith, there, count)))
    (c.a_device_counts_the_calls_of_its_steps.ensures.none store.device None refl) in
    let moved = goes b now store store None workers workers before after is_next traces going left
    (c.only_work_tells.ensures o b.workers b.events t now None (no_work number) left.taken) in
    goes_on b now store store None workers workers before after is_next traces going left
    (c.a_run_goes_on.ensures b o o t going.base going.base store store [] [] going.last
    going.last (only_step None) going.run moved)
    (c.what_is_traced_grows.ensures.state_follows b t now (only_step None) is_next.next)
