use Rattle.std.proofs.Common.{◌≡◌, ap, length, arith}
use Rattle.wal.specs.Changes.Listed.{Listed}
use Rattle.circ.proofs.LogLemmas.Lawful.{lawful_opened, length-changes_of}
use Rattle.wal.proofs.memory.Wal.new.Goals as goal

pub invariant_of-result : goal.invariant_of-result
invariant_of-result c =
    let is = c.in_ok-changes.ensures in
    let count : c.len-logged.result ≡ length c.args.found.logged.items =
    omega (arith, ap (λ (l : Listed). length l.changes) is, length-changes_of 0 c.args.found.logged.items) in
    rw (c.new-2.ensures, c.new-3.ensures, count, is) (
      lawful_opened c.args.blocks c.args.found.start c.args.found.logged.items c.requires.disk c.requires.slots
          c.requires.positions c.requires.homes,
      tt,
      tt,
    )
