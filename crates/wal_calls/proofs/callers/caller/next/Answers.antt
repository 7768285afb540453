use Rattle.wal_calls.proofs.CallersLemmas.Sides.{next_blocks, next_inodes, next_is}
use Rattle.wal_calls.proofs.callers.caller.next.Goals as goal

pub returns-clause-next : goal.returns-clause-next
returns-clause-next g c =
    next_is c.args.side c.next.result c.args.core.now c.next.new.self c.next.ensures.causes c.next.ensures.some
    c.next.ensures.none c.next.ensures.within c.next.ensures.call c.next.ensures.law c.next.ensures.stays
    c.next.ensures.preserves

pub returns-clause-blocks : goal.returns-clause-blocks
returns-clause-blocks g c =
    next_blocks c.args.side c.next.result c.args.core.now c.next.new.self c.next.ensures.some c.next.ensures.none

pub returns-clause-inodes : goal.returns-clause-inodes
returns-clause-inodes g c =
    next_inodes c.args.side c.next.result c.args.core.now c.next.new.self c.next.ensures.some c.next.ensures.none
