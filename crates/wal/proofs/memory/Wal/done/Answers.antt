use Rattle.std.proofs.Common.{sym, subst}
use Rattle.circ.specs.Log.Log.{Log}
use Rattle.circ.specs.Log.Effects.{HasGoneOn}
use Rattle.wal.specs.Sides.{is_out}
use Rattle.wal.proofs.Sides.{comes_back, seen_done}
use Rattle.wal.proofs.memory.Wal.done.Goals as goal

pub returns-clause-seen : goal.returns-clause-seen
returns-clause-seen c =
    subst (λ (log : Log). HasGoneOn c.args.self.now log) (sym c.take_io.ensures.log)
    (seen_done c.args.role c.args.self.now (is_out c.args.role c.args.self.now c.args.io) c.args.ok
    c.take_io.ensures.lawful)

pub returns-clause-law : goal.returns-clause-law
returns-clause-law c =
    comes_back c.args.role c.args.self.now c.take_io.new.self c.args.io c.args.ok c.take_io.ensures.lawful
    c.take_io.ensures.log
