use Rattle.store_workers.proofs.LeavesOthers.{leaves_others}
use Rattle.store_workers.proofs.concurrent_workers.a_step_leaves_what_others_have.Goals as goal

pub returns : goal.returns
returns c = λ old new made preserves out io tx fetch goes. leaves_others old new preserves out io made tx fetch goes
