-- The core came out of its lock, and is what was settled.
use Rattle.std.proofs.Common.{◌∙◌, ap}
use Rattle.std.proofs.lemmas.Result.{IfOk-weaker}
use Rattle.txn.specs.Core.{CoreState}
use Rattle.pool.proofs.shutdown.end.Goals as goal

pub returns : goal.returns
returns g c = record {
  boot = IfOk-weaker c.settled.result _ _ (λ ended is. ap (λ (core : CoreState). core.boot) is ∙ c.into_core.ensures.boot)
      c.settled.ensures.core;
  log_calls = λ all. IfOk-weaker c.settled.result _ _
      (λ ended is. ap (λ (core : CoreState). core.log_calls) is
      ∙ (rw c.leave_log-logged.ensures.share at c.into_core.ensures.log_calls) (c.args.pool.logger.whole ∙ all))
      c.settled.ensures.core;
  inst_calls = λ all. IfOk-weaker c.settled.result _ _
      (λ ended is. ap (λ (core : CoreState). core.inst_calls) is
      ∙ (rw c.leave_install-installed.ensures.share at c.into_core.ensures.inst_calls) (c.args.pool.installer.whole ∙ all))
      c.settled.ensures.core;
}
