use Rattle.std.proofs.Common.{◌+◌, ◌*◌, sym, ap, ◌∙◌, arith}
use Rattle.layout.specs.Fields.{eight_at}
use Rattle.layout.proofs.NamedSlot.{same_word}
use Rattle.layout.proofs.slot.has_word.Goals as goal

pub returns-then-eight_at : goal.returns-then-eight_at
returns-then-eight_at c = λ none inodes number is.
    let bytes = c.args.bytes.now in
    let of = same_word inodes bytes c.args.name.now number c.requires.len is
    (λ i. omega (arith, c.type_inv.bytes i)) (8 * c.args.word) in
    c.if-eight_at.true (c.eight_at.ensures ∙ of
    ∙ sym (ap (eight_at (4 + 8 * c.args.word)) c.bytes.ensures.bytes) ∙ sym c.eight_at-2.ensures)
