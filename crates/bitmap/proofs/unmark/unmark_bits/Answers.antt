use Rattle.std.proofs.Common.{sym, ◌∙◌, subst, get_or, take}
use Rattle.std.proofs.lemmas.List.{take_more}
use Rattle.bitmap.specs.Frees.{AreCleared}
use Rattle.bitmap.proofs.ClearedBits.{cleared_more}
use Rattle.bitmap.proofs.unmark.unmark_bits.Goals as goal

pub loop-number-preserved : goal.loop-number-preserved
loop-number-preserved c =
    let i = c.loop-number.number-index in
    let numbers = c.args.numbers.now in (
      c.put_bit.ensures.len ∙ c.loop-number.invariant.0,
      subst (λ l. AreCleared l c.args.bytes.now c.put_bit.new.bytes)
          (sym (take_more numbers i 0 c.loop-number-test.true))
          (cleared_more (take i numbers) (get_or numbers i 0) c.args.bytes.now c.loop-number.bytes
          c.put_bit.new.bytes c.loop-number.invariant.1 c.put_bit.ensures),
    )
