use Rattle.std.proofs.Common.{arith}
use Rattle.std.proofs.lemmas.Grind.{common_steps}
use Rattle.server_sync.proofs.Keys.{fewer_keys}
use Rattle.server_sync.proofs.free_keys.FreeKeys.give.Goals as goal

pub returns-then-not-has-clause-given : goal.returns-then-not-has-clause-given
returns-then-not-has-clause-given c = λ within absent.
    let free_keys = c.args.self.now in
    let has_space = free_keys.has_space in
    let short = fewer_keys free_keys.keys.items free_keys.count c.args.key.number free_keys.once free_keys.below within absent in
    grind (arith, common_steps, short, has_space)
