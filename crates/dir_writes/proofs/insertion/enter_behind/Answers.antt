use Rattle.std.proofs.lemmas.Result.{IfOk-weaker}
use Rattle.dir_writes.proofs.insertion.enter_behind.Goals as goal

pub returns-clause-ok : goal.returns-clause-ok
returns-clause-ok c =
    IfOk-weaker c.grow.result _ _ (λ made proven blocks tree node write_set grows at has_space.
    proven blocks tree node c.args.name.now c.args.dirent_number write_set grows c.in_ok-bytes.ensures.bytes at has_space)
    c.grow.ensures.ok
