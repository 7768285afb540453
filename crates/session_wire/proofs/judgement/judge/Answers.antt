use Rattle.std.proofs.Common.{rules, ◌≡◌, ◌∙◌, ap, sym}
use Rattle.rpc.specs.Headers.{opening_at}
use Rattle.session_wire.proofs.LastBytes.{opened}
use Rattle.session_wire.proofs.judgement.judge.Goals as goal

pub judge_header-requires : goal.judge_header-requires
judge_header-requires c =
    let is : c.new-reader.result ≡ c.args.message.now = search rules in
    opened c.args.message.now _ c.read_opening.new.reader c.each_fits.ensures (sym (ap opening_at is) ∙ c.in-Ok.ensures)
