use Rattle.store_workers.proofs.AfterCommit.{committed_with}
use Rattle.store_workers.proofs.workers.parts.State.commit.Goals as goal

pub returns-clause-sound : goal.returns-clause-sound
returns-clause-sound c =
    committed_with c.args.self.now c.ended-committing.new.self c.commit-answer.result _ c.requires.held
    c.ended-committing.ensures.state
