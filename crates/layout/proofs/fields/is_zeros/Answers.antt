use Rattle.std.proofs.Common.{rules, ◌≡◌, ◌<◌, ◌*◌, ◌/◌, ◌^◌, ◌&&◌, drop, sym, ap, ◌∙◌, length, take, true, subst, arith}
use Rattle.layout.specs.Fields.{is_zeros}
use Rattle.layout.proofs.ZeroWords.{one_more, some_left, split}
use Rattle.layout.proofs.fields.is_zeros.Goals as goal

pub returns-then-eight_at-ne0 : goal.returns-then-eight_at-ne0
returns-then-eight_at-ne0 c =
    let low = c.words-test.true in
    let small = c.eight_at.type_inv in
    let is = c.eight_at.ensures in
    some_left c.args.bytes.now (λ i. omega (arith, c.type_inv.bytes i)) (8 * c.words.word) (omega (arith, low))
    (subst (λ n. n < 2 ^ 64) is small) (λ none. c.if-eight_at-ne0.true (is ∙ none))

pub words-preserved : goal.words-preserved
words-preserved c =
    let low = c.words-test.true in
    ap (λ n. is_zeros (take n c.args.bytes.now)) (omega arith)
    ∙ one_more c.args.bytes.now (λ i. omega (arith, c.type_inv.bytes i)) (8 * c.words.word) (omega (arith, low))
    c.words.invariant (sym c.eight_at.ensures ∙ c.if-eight_at-ne0.false)

pub returns : goal.returns
returns c =
    let bytes = c.args.bytes.now in
    let past = c.words-test.false in
    let most = c.words.auto.word-end in
    let words : c.words.word ≡ length bytes / 8 = omega (arith, past, most) in
    let zeros : is_zeros (take (8 * (length bytes / 8)) bytes) ≡ true =
    subst (λ n. is_zeros (take (8 * n) bytes) ≡ true) words c.words.invariant in
    let rest : c.split_at.result.1.now ≡ drop (8 * (length bytes / 8)) bytes = search rules in
    c.are_zero.ensures ∙ ap is_zeros rest ∙ sym (split (8 * (length bytes / 8)) bytes
    ∙ ap (λ b. b && is_zeros (drop (8 * (length bytes / 8)) bytes)) zeros)
