use Rattle.std.proofs.Common.{◌≡◌, Ok, rules}
use Rattle.nfsd.proofs.Obeyed.{prints}
use Rattle.nfsd.proofs.device.format_device.Goals as goal

pub returns : goal.returns
returns g c =
    let answered : c.format.result ≡ Ok c.in_ok-data_blocks.data_blocks = search rules in
    let formatted = rw (answered, c.moment.ensures) at c.format.ensures.formatted in
    let printed = rw c.blocks-2.ensures at c.print.ensures.printed in
    prints _ _ _ _ _ _ _ c.print.result formatted printed c.print.ensures.print
