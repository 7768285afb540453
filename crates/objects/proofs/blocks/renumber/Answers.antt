use Rattle.std.proofs.Common.{◌≡◌, ◌<◌, length, slice_index, get_or, sym, ◌∙◌, arith}
use Rattle.std.proofs.lemmas.List.{length-map, length-set}
use Rattle.objects.specs.Indexed.{numbers}
use Rattle.objects.specs.declared.present.Present.{Present}
use Rattle.objects.proofs.Indexed.{distinct, tracked_too, numbers-at}
use Rattle.objects.proofs.blocks.renumber.Goals as goal

pub bounds-indices-list : goal.bounds-indices-list
bounds-indices-list c =
    let lt : c.loop-i.i < length c.args.list.now = omega arith in
    let size : length (numbers c.args.list.now) ≡ length c.args.list.now =
    length-map c.args.list.now (λ (resident : Present). resident.block.0) in
    let here : Present = get_or c.args.list.now c.loop-i.i c.index-list-i.result in
    let at : slice_index (numbers c.args.list.now) c.loop-i.i ≡ here.block.0 =
    numbers-at c.args.list.now c.loop-i.i c.index-list-i.result lt in
    let home = c.requires.homed c.loop-i.i (omega (arith, lt, size)) in
    let long = c.loop-i.invariant.long in
    omega (arith, home, at, long)

pub loop-i-preserved : goal.loop-i-preserved
loop-i-preserved c =
    let lt : c.loop-i.i < length c.args.list.now = omega arith in
    let size : length (numbers c.args.list.now) ≡ length c.args.list.now =
    length-map c.args.list.now (λ (resident : Present). resident.block.0) in
    let here : Present = get_or c.args.list.now c.loop-i.i c.index-list-i.result in
    let at : slice_index (numbers c.args.list.now) c.loop-i.i ≡ here.block.0 =
    numbers-at c.args.list.now c.loop-i.i c.index-list-i.result lt in
    let home = c.requires.homed c.loop-i.i (omega (arith, lt, size)) in
    let long = c.loop-i.invariant.long in
    record {
      long = length-set c.loop-i.indices here.block.0 c.loop-i.i ∙ long;
      tracked = tracked_too (numbers c.args.list.now) c.loop-i.indices c.loop-i.i here.block.0
          (omega (arith, home, at, long)) at
          (λ k less e. distinct c.args.list.now c.requires.once k c.loop-i.i less lt (e ∙ sym at))
          c.loop-i.invariant.tracked;
    }

pub returns : goal.returns
returns c =
    let size : length (numbers c.args.list.now) ≡ length c.args.list.now =
    length-map c.args.list.now (λ (resident : Present). resident.block.0) in
    let long = c.loop-i.invariant.long in
    let end : length c.args.list.now ≡ c.loop-i.i = omega arith in
    record {
      homed = λ k lt. (let home = c.requires.homed k lt in omega (arith, home, long));
      there = λ k lt. c.loop-i.invariant.tracked k (omega (arith, lt, size, end));
    }
