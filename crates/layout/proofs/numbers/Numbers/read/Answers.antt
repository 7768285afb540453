use Rattle.std.proofs.Common.{◌≡◌, ℕ, List, [], ◌∷◌, ◌++◌, length, sym, ap, ◌∙◌, arith}
use Rattle.base.specs.declared.TheConstants.{INDIRECT_INDEXES}
use Rattle.layout.proofs.NumbersAt.{no_numbers, one_more, numbers-length}
use Rattle.layout.proofs.numbers.Numbers.read.Goals as goal

pub indexes-init : goal.indexes-init
indexes-init c = c.in_ok-numbers.ensures.items ∙ sym (no_numbers 0 c.args.bytes.now)

pub indexes-preserved : goal.indexes-preserved
indexes-preserved c =
    c.in_ok-push.ensures.items ∙ (λ i. c.indexes.invariant i ++ c.four_at.ensures i ∷ [])
    ∙ sym (one_more c.indexes.index c.args.bytes.now)

pub invariant_of-result : goal.invariant_of-result
invariant_of-result c =
    let all : c.indexes.index ≡ INDIRECT_INDEXES =
    omega (arith, c.indexes-test.false, c.indexes.auto.index-end) in
    ap (λ (l : List ℕ). length l) c.indexes.invariant ∙ numbers-length c.indexes.index 0 c.args.bytes.now
    ∙ all
