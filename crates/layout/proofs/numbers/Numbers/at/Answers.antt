use Rattle.std.proofs.Common.{◌∙◌, sym, ap, arith}
use Rattle.base.specs.declared.TheConstants.{INDIRECT_INDEXES}
use Rattle.layout.specs.Fields.{four_at}
use Rattle.layout.proofs.NumbersAt.{number_at}
use Rattle.layout.proofs.numbers.Numbers.at.Goals as goal

pub returns : goal.returns
returns c =
    c.four_at.ensures ∙ ap (λ p. four_at p c.args.bytes.now) (omega arith)
    ∙ sym (number_at INDIRECT_INDEXES 0 c.args.bytes.now c.args.index c.requires.index)
