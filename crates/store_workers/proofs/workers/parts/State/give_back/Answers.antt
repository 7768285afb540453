use Rattle.std.proofs.Common.{◌∙◌, ap, subst, Option, true}
use Rattle.txn.specs.Fetch.{Fetch}
use Rattle.store_workers.specs.WorkerSteps.{IsFromHome}
use Rattle.store_workers.specs.declared.workers.parts.Phase.{Phase}
use Rattle.store_workers.specs.declared.workers.parts.Phase.TheVariants.{Read}
use Rattle.store_workers.proofs.workers.parts.State.give_back.Goals as goal

pub returns-then-ok-clause-home : goal.returns-then-ok-clause-home
returns-then-ok-clause-home c = λ base from home.
    c.fetched.ensures.preserves base
    (subst (λ (io : Option Fetch). IsFromHome (Read true) io c.args.core.now base) c.take_fetch-io.ensures.io
    (subst (λ (phase : Phase). IsFromHome phase c.args.self.now.begun.io c.args.core.now base)
    (c.requires.phase ∙ ap Read c.if-ok.true) from)) home
