use Rattle.std.proofs.Common.{◌+◌, [], None, refl, arith}
use Rattle.store_promise.specs.declared.events.Event.TheVariants as event
use Rattle.store_promise.specs.Transcript.{entries_of, transcript_of}
use Rattle.store_law.specs.Runs.Tracing.{state_now}
use Rattle.store_workers.specs.Worker.{ctx_of}
use Rattle.store.proofs.RunsLemmas.AtWorkEvents.{call_fetches, call_agrees}
use Rattle.store.proofs.RunsLemmas.GoingUncommitted.{Leaves, goes, goes_on, left_going}
use Rattle.store.proofs.RunsLemmas.GoingCall.{left_by, no_work}
use Rattle.store.proofs.RunsLemmas.GoingOn.{only_step}
use Rattle.store.proofs.runs.runs.going_workers.a_call_leaves_a_run_going.Goals as goal

pub returns-clause-goes : goal.returns-clause-goes
returns-clause-goes c =
    λ b number credential moment call store workers later worker new made before after is_next list takes with traces
    going.
    let t = transcript_of before in
    let o = going.setting in
    let boot = b.first + 1 in
    let ctx = ctx_of credential moment in
    let now = event.Call number credential moment call in
    let so = going.so_far.each number worker list.was in
    let left : Leaves b now o going.base going.last t store store made later =
    left_by b number credential moment call ctx store workers later worker new made before
    (c.a_device_counts_the_calls_of_its_steps.ensures.none store.device) going list takes
    (c.a_worker_tells_its_call.ensures boot (entries_of t) credential moment call worker new made is_next.sound
    so.stands takes)
    (call_agrees o (state_now b.events t) number credential moment call ctx store worker new made takes going.run.is_run_state)
    (call_fetches ctx call worker new made takes) with in
    let step = goes b now store store made workers later before after is_next traces going left
    (c.only_work_tells.ensures o b.workers b.events t now made (no_work number credential moment call)
    left.taken) in
    goes_on b now store store made workers later before after is_next traces going left
    (c.a_run_goes_on.ensures b o o t going.base going.base store store [] [] going.last
    going.last (only_step made) going.run step)
    (c.what_is_traced_grows.ensures.state_follows b t now (only_step made) is_next.next)

pub returns-clause-absent : goal.returns-clause-absent
returns-clause-absent c = λ b number credential moment call store workers before after is_next other traces going.
    let t = transcript_of before in
    let o = going.setting in
    let now = event.Call number credential moment call in
    let left : Leaves b now o going.base going.last t store store None workers =
    left_going b now store workers before going
    (λ there. other (let count = going.so_far.count in omega (arith, there, count)))
    (c.a_device_counts_the_calls_of_its_steps.ensures.none store.device None refl) in
    let moved = goes b now store store None workers workers before after is_next traces going left
    (c.only_work_tells.ensures o b.workers b.events t now None (no_work number credential moment call)
    left.taken) in
    goes_on b now store store None workers workers before after is_next traces going left
    (c.a_run_goes_on.ensures b o o t going.base going.base store store [] [] going.last
    going.last (only_step None) going.run moved)
    (c.what_is_traced_grows.ensures.state_follows b t now (only_step None) is_next.next)
