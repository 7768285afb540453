use Rattle.std.proofs.Common.{◌≡◌, length, arith}
use Rattle.std.proofs.lemmas.Grind.{common_steps}
use Rattle.server_sync.proofs.Keys.{all_keys}
use Rattle.server_sync.proofs.free_keys.FreeKeys.is_whole.Goals as goal

pub returns-clause-all : goal.returns-clause-all
returns-clause-all c = λ full number within.
    let free_keys = c.args.self.now in
    let all : length free_keys.keys.items ≡ free_keys.count = grind (arith, common_steps, full) in
    all_keys free_keys.keys.items free_keys.count number free_keys.once free_keys.below all within
