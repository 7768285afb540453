use Rattle.session_wire.proofs.ServedStreams.{refusal}
use Rattle.session_wire.proofs.streams.a_refused_call_gets_its_refusal.Goals as goal

pub returns : goal.returns
returns c = refusal
