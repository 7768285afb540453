use Rattle.store.proofs.RunsLemmas.GoingOn.{goes, goes_on, only_step}
use Rattle.std.proofs.Common.{[]}
use Rattle.store_promise.specs.Transcript.{transcript_of}
use Rattle.store.proofs.runs.runs.going_laws.a_log_event_leaves_a_run_going.Goals as goal

pub returns : goal.returns
returns c = λ b now old new made workers before after is_next is does traces going.
    let step = goes b now old new made workers before after is_next is does traces going in
    goes_on b now old new made workers before after is_next is does traces going
    (c.a_run_goes_on.ensures b going.setting going.setting (transcript_of before) going.base _ old new
    [] [] going.last
    going.last (only_step made) going.run step)
    (c.what_is_traced_grows.ensures.state_follows b (transcript_of before) now (only_step made) is_next.next)
