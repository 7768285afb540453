use Rattle.std.proofs.Common.{◌≡◌, ◌<◌, length, slice_index, get_or, false, nat_eq}
use Rattle.std.proofs.Common.{sym, ◌∙◌, arith}
use Rattle.std.proofs.lemmas.Bool.{eqb-true, eq-eqb, true≢false}
use Rattle.objects.specs.Indexed.{numbers}
use Rattle.objects.specs.declared.present.Present.{Present}
use Rattle.objects.proofs.Indexed.{found, not_found, numbers-at}
use Rattle.objects.proofs.blocks.index_of.Goals as goal
use Rattle.objects.proofs.blocks.index_of.Goals.{else-i-list-via-then-i-list+else-eq, else-i-list-via-else-i-list}

pub returns-then-eq : goal.returns-then-eq
returns-then-eq c =
    let lt : c.tracked-i.result < length c.args.list.now = omega arith in
    let at : slice_index (numbers c.args.list.now) c.tracked-i.result ≡ c.args.block.0 =
    numbers-at c.args.list.now c.tracked-i.result c.index-list-i.result lt
    ∙ eqb-true (get_or c.args.list.now c.tracked-i.result c.index-list-i.result).block.0 c.args.block.0
    (sym c.if-eq.ensures) in
    found c.args.list.now c.args.indices.now c.args.block c.tracked-i.result c.requires c.tracked-i.ensures lt at

pub returns : goal.returns
returns c =
    not_found c.args.list.now c.args.indices.now c.args.block c.tracked-i.result c.requires c.tracked-i.ensures
    (λ lt at. elim c.else-i-list.branch [
      | else-i-list-via-then-i-list+else-eq w ↦
          let here : Present = get_or c.args.list.now c.tracked-i.result w.index-list-i.result in
          let same : here.block.0 ≡ c.args.block.0 =
          sym (numbers-at c.args.list.now c.tracked-i.result w.index-list-i.result lt) ∙ at in
          let no : nat_eq here.block.0 c.args.block.0 ≡ false = sym w.if-eq.ensures in
          true≢false (sym (eq-eqb here.block.0 c.args.block.0 same) ∙ no)
      | else-i-list-via-else-i-list w ↦ let le = w.if-i-list.false in omega (arith, le, lt)
    ])
