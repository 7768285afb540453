use Rattle.std.proofs.Common.{◌≡◌, ◌+◌, refl, arith}
use Rattle.objects.specs.declared.counted.Counted.{Counted}
use Rattle.objects.proofs.CountedSoFar.{none_more, none_yet, one_behind, some_more, weight}
use Rattle.objects.proofs.counted.Counted.of.Goals.{then-number-ne0, else-number-ne0}
use Rattle.objects.proofs.counted.Counted.of.Goals as goal

pub indexes-init : goal.indexes-init
indexes-init c = record { few = omega arith; counted = none_yet c.args.bytes.now _ refl refl refl }

pub indexes-preserved : goal.indexes-preserved
indexes-preserved c =
    let number = c.four_at-number.result in
    let count : c.if-number-ne0.count ≡ c.indexes.count + weight number =
    elim c.if-number-ne0.branch [
      | then-number-ne0 w ↦
          let one = some_more number w.if-number-ne0.true in let is = w.count-is in omega (arith, one, is)
      | else-number-ne0 w ↦
          let none = none_more number w.if-number-ne0.false in let is = w.count-is in omega (arith, none, is)
    ] in
    let few = c.indexes.invariant.few in record {
      few = elim c.if-number-ne0.branch [
        | then-number-ne0 w ↦ let is = w.count-is in omega (arith, few, is)
        | else-number-ne0 w ↦ let is = w.count-is in omega (arith, few, is)
      ];
      counted =
          one_behind c.indexes.index number c.args.bytes.now _ _ c.four_at-number.ensures c.indexes.invariant.counted
          count c.lesser-least.ensures.least c.lesser-least.ensures.number c.lesser-least.ensures.one
          c.greater-greatest.ensures.greatest c.greater-greatest.ensures.number c.greater-greatest.ensures.one;
    }
