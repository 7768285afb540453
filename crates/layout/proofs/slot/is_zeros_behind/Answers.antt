use Rattle.std.proofs.Common.{◌∙◌, arith}
use Rattle.layout.proofs.ZeroParts.{behind}
use Rattle.layout.proofs.slot.is_zeros_behind.Goals as goal

pub returns : goal.returns
returns c =
    let short = c.if-count-gt24.false in
    c.has_zero_parts.ensures ∙ behind c.args.bytes.now c.args.count c.requires.len (omega (arith, short))
