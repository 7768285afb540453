use Rattle.std.proofs.Common.{◌≡◌, ℕ, ◌+◌, bit_or, nat_eq, ap, ◌∙◌, arith}
use Rattle.layout.specs.Fields.{eight_at}
use Rattle.layout.proofs.ZeroParts.{four_words}
use Rattle.layout.proofs.fields.are_zeros_at.Goals as goal

offsets_agree : (from : ℕ) → from + 24 ≡ from + 16 + 8
offsets_agree from = omega arith

pub returns : goal.returns
returns c =
    let bytes = c.args.bytes.now in
    let from = c.args.offset in
    let last = c.eight_at-4.ensures ∙ ap (λ p. eight_at p bytes) (offsets_agree from) in
    (λ i. nat_eq (bit_or (bit_or (c.eight_at.ensures i) (c.eight_at-2.ensures i))
    (bit_or (c.eight_at-3.ensures i) (last i))) 0)
    ∙ four_words bytes (λ i. omega (arith, c.type_inv.bytes i)) from c.requires
