use Rattle.std.proofs.Common.{◌+◌, ◌^◌, arith}
use Rattle.session_wire.specs.Replies.{body_of, body_too_long, reply_bytes}
use Rattle.session_wire.proofs.Capacity.{never_refused}
use Rattle.session_wire.proofs.reply.spell.Goals as goal

pub unreachable-requires : goal.unreachable-requires
unreachable-requires c =
    never_refused c.in-Err.field-0 (body_too_long (body_of c.args.reply)) c.args.out.now (2 ^ 31 + c.args.length)
    (reply_bytes c.args.xid (body_of c.args.reply)) c.requires.short (omega (arith, c.requires.capacity, c.requires.long))
    c.in-Err.ensures
