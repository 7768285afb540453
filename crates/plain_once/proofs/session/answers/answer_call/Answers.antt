use Rattle.std.proofs.Common.{refl}
use Rattle.std.proofs.lemmas.Result.{IfOk-weaker}
use Rattle.rpc.specs.declared.refusal.Refusal.TheVariants.{SystemError}
use Rattle.plain_once.specs.Session.Answering.{Done, Undone, refusal_record}
use Rattle.plain_once.proofs.SessionLemmas.Lost.{on_err, some_reply_record}
use Rattle.plain_once.proofs.session.answers.answer_call.Goals as goal

pub returns-in-Ok-clause-ok : goal.returns-in-Ok-clause-ok
returns-in-Ok-clause-ok c =
    IfOk-weaker c.tell.result _ _ (λ whole reply_record_is. Done c.in-Ok.reply c.in-Ok.ensures.ok reply_record_is) c.tell.ensures

pub returns-in-Ok-clause-lost : goal.returns-in-Ok-clause-lost
returns-in-Ok-clause-lost c =
    let reply_record_is = some_reply_record c.args.xid c.in-Ok.reply in
    on_err c.tell.result (reply_record_is.0, Done c.in-Ok.reply c.in-Ok.ensures.ok reply_record_is.1)

pub returns-in-Err-clause-lost : goal.returns-in-Err-clause-lost
returns-in-Err-clause-lost c =
    on_err c.refused.result (refusal_record c.args.xid SystemError, Undone c.in-Err.ensures.err refl)
