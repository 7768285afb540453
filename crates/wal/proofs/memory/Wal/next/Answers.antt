use Rattle.wal.specs.Sides.{with_out}
use Rattle.circ.proofs.LogLemmas.Effects.{seen_next}
use Rattle.wal.proofs.Sides.{goes_out, seen_out}
use Rattle.wal.proofs.memory.Wal.next.Goals as goal

pub returns-clause-seen : goal.returns-clause-seen
returns-clause-seen c =
    seen_next c.next_io.result c.args.self.now c.next_io.new.self (with_out c.args.role c.args.self.now)
    (seen_out c.args.role c.args.self.now) c.next_io.ensures.none c.next_io.ensures.some

pub returns-clause-law : goal.returns-clause-law
returns-clause-law c =
    goes_out c.args.role c.next_io.result c.args.self.now c.next_io.new.self c.next_io.ensures.lawful
    c.next_io.ensures.some c.next_io.ensures.call
