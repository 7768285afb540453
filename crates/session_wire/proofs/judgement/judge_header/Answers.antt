use Rattle.session_wire.proofs.LastBytes.{headed}
use Rattle.session_wire.proofs.judgement.judge_header.Goals as goal

pub begin-from-requires : goal.begin-from-requires
begin-from-requires c =
    headed c.args.message.now c.args.reader.now _ c.read_header.new.reader c.each_fits.ensures c.requires c.in-Ok.ensures
