use Rattle.wal_calls.proofs.CallersLemmas.Sides.{comes_back_is, stays_back}
use Rattle.wal_calls.proofs.callers.caller.done.Goals as goal

pub returns-clause-back : goal.returns-clause-back
returns-clause-back g c =
    comes_back_is c.args.side c.args.core.now c.done.new.self c.args.io c.args.ok c.done.ensures.log c.done.ensures.blocks
    c.done.ensures.core c.done.ensures.leaves c.done.ensures.law c.done.ensures.stays c.done.ensures.preserves

pub returns-clause-inodes : goal.returns-clause-inodes
returns-clause-inodes g c = (stays_back c.args.side c.args.core.now c.done.new.self c.done.ensures.core).inodes

pub returns-clause-calls : goal.returns-clause-calls
returns-clause-calls g c =
    let stays = stays_back c.args.side c.args.core.now c.done.new.self c.done.ensures.core in
    (stays.log_calls, stays.inst_calls)

pub returns-clause-boot : goal.returns-clause-boot
returns-clause-boot g c = (stays_back c.args.side c.args.core.now c.done.new.self c.done.ensures.core).boot
