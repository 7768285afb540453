use Rattle.procs.proofs.FewClaimed.{claimed_object, none_claimed, one_claimed_once}
use Rattle.procs.proofs.asks.what_is_claimed_was_asked_for.Goals as goal

pub returns-clause-none : goal.returns-clause-none
returns-clause-none c = none_claimed

pub returns-clause-once : goal.returns-clause-once
returns-clause-once c = one_claimed_once

pub returns-clause-object : goal.returns-clause-object
returns-clause-object c = claimed_object
