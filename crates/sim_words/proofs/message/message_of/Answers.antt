use Rattle.std.proofs.Common.{◌≤◌, ℕ, Option, subst, sym}
use Rattle.base.specs.declared.TheConstants.{RECORD_BYTES}
use Rattle.sim_words.specs.Reading.{Gives}
use Rattle.sim_words.specs.declared.message.Message.{Message}
use Rattle.sim_words.proofs.Messages.{spelled}
use Rattle.sim_words.proofs.message.message_of.Goals as goal

pub returns-in-Ok-Call : goal.returns-in-Ok-Call
returns-in-Ok-Call c =
    subst (λ (read : Option Message). Gives (λ message. message) c.message_with.result read)
    (sym (spelled c.args.bytes.now c.in-Ok-Call.xid c.in-Ok-Call.credential c.in-Ok-Call.call
    (subst (λ (n : ℕ). n ≤ RECORD_BYTES) c.len.ensures.value c.if-len-gt-RECORD_BYTES.false)
    (rw c.in-Ok-Call.field-0-is at c.in-Ok-Call.ensures))) c.message_with.ensures
