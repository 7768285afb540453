use Rattle.std.proofs.Common.{rules, ◌≡◌, ◌+◌, ◌^◌, length, arith, length-append, vec_len}
use Rattle.rpc.proofs.Lengths.{word-length}
use Rattle.xdr.specs.Items.{word}
use Rattle.session_wire.specs.Replies.{body_of, reply_bytes}
use Rattle.session_wire.proofs.reply.append_reply.Goals as goal

pub returns-in_err-reserve-clause-has_space : goal.returns-in_err-reserve-clause-has_space
returns-in_err-reserve-clause-has_space c = λ room.
    let bytes = reply_bytes c.args.xid (body_of c.args.reply) in
    let same : vec_len c.args.out.now ≡ length c.args.out.now.items = search rules in
    absurd (omega (
      arith,
      same,
      room,
      c.in_err-reserve.ensures.full,
      c.in-Some.ensures.some.0,
      length-append (word (2 ^ 31 + length bytes)) bytes,
      word-length (2 ^ 31 + length bytes),
    ))
