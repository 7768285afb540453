use Rattle.session_wire.proofs.CallLaws.{judged_takes}
use Rattle.session_wire.proofs.message_laws.judged_calls_are_spelled.Goals as goal

pub returns : goal.returns
returns c = λ bytes xid caller call fits e.
    let j = judged_takes bytes xid caller call fits e in
    (j.0, j.1.spelled, j.1.xid_is, j.1.caller_is, j.1.call_is)
