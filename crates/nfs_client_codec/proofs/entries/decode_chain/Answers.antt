use Rattle.std.proofs.Common.{arith, inl, inr}
use Rattle.std.proofs.lemmas.Result.{err_from_is_err_and}
use Rattle.xdr.specs.Codes.{chain}
use Rattle.xdr.proofs.Lawful.{flag_shrinks}
use Rattle.xdr.proofs.Links.{begins, goes_on, is_done, no_flag, no_item}
use Rattle.nfs_client_codec.proofs.entries.decode_chain.Goals as goal

pub loop-items-init : goal.loop-items-init
loop-items-init g c = rw c.new-items.ensures.items (begins g.T.Decode.code c.args.reader.now)

pub returns-in_err-flag : goal.returns-in_err-flag
returns-in_err-flag g c =
    let p = err_from_is_err_and c.from_residual.result c.from_residual.ensures.1 in
    rw (p.1, p.2) (inl (no_flag g.T.Decode.code c.loop-items.items.items c.loop-items.reader
    ((chain g.T.Decode.code).read c.args.reader.now) c.in_err-flag.field-0.0 c.in_err-flag.ensures
    c.loop-items.invariant))

pub returns-in_err-decode : goal.returns-in_err-decode
returns-in_err-decode g c =
    let p = err_from_is_err_and c.from_residual-in_err-decode.result
    c.from_residual-in_err-decode.ensures.1 in
    let more = rw c.if-branch.true at c.in_ok-flag.ensures in
    rw (p.1, p.2) (elim c.in_err-decode.ensures [
      | inl e ↦ inl (no_item g.T.Decode.code c.loop-items.items.items c.loop-items.reader c.flag.new.self
          ((chain g.T.Decode.code).read c.args.reader.now) c.in_err-decode.field-0.0 more e
          c.loop-items.invariant)
      | inr e ↦ inr e
    ])

pub loop-items-smaller : goal.loop-items-smaller
loop-items-smaller g c = omega (
  arith,
  flag_shrinks c.loop-items.reader c.in_ok-flag.field-0 c.flag.new.self c.in_ok-flag.ensures,
  g.met.T.ChainItem.is_code.shrinks c.flag.new.self c.in_ok-decode.field-0 c.decode.new.reader
      c.in_ok-decode.ensures,
)

pub loop-items-preserved : goal.loop-items-preserved
loop-items-preserved g c =
    let more = rw c.if-branch.true at c.in_ok-flag.ensures in
    rw c.in_ok-push.ensures.items (goes_on g.T.Decode.code g.met.T.ChainItem.is_code c.loop-items.items.items
    c.loop-items.reader c.flag.new.self c.decode.new.reader c.in_ok-decode.field-0
    ((chain g.T.Decode.code).read c.args.reader.now) more c.in_ok-decode.ensures c.loop-items.invariant)

pub returns : goal.returns
returns g c =
    let more = rw c.if-branch.false at c.in_ok-flag.ensures in
    is_done g.T.Decode.code c.loop-items.items.items c.loop-items.reader c.flag.new.self
    ((chain g.T.Decode.code).read c.args.reader.now) more c.loop-items.invariant
