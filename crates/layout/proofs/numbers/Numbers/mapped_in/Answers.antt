use Rattle.std.proofs.Common.{◌≡◌, ◌<◌, ◌≤◌, ◌^◌, List, ℕ, refl, arith}
use Rattle.base.specs.declared.TheConstants.{INDIRECT_INDEXES}
use Rattle.objects.proofs.NumbersAt.{numbers-length}
use Rattle.layout.specs.Fields.{numbers_at}
use Rattle.layout.specs.Geometry.{data_at}
use Rattle.layout.proofs.CountedAt.{all_placed, before_data, few_counted, past_end}
use Rattle.layout.proofs.numbers.Numbers.mapped_in.Goals as goal

pub returns-then-counted-data-clause-refused : goal.returns-then-counted-data-clause-refused
returns-then-counted-data-clause-refused c =
    let g = c.args.geometry.now in
    let lawful = g.lawful in
    let from = c.data-data.ensures in
    let low = c.if-counted-data.true in
    let most = lawful.0.1 in
    let has_space = lawful.1.3 in (
      refl,
      before_data g (numbers_at INDIRECT_INDEXES 0 c.args.block.now.bytes) c.counted-counted.result
          c.counted-counted.ensures (omega (arith, most, has_space)) (omega (arith, from, low)),
    )

pub returns-then-geometry-counted-clause-refused : goal.returns-then-geometry-counted-clause-refused
returns-then-geometry-counted-clause-refused c =
    let g = c.args.geometry.now in
    let lawful = g.lawful in
    let least = lawful.0.0 in (
      refl,
      past_end g (numbers_at INDIRECT_INDEXES 0 c.args.block.now.bytes) c.counted-counted.result
          c.counted-counted.ensures (omega (arith, least)) c.if-geometry-counted.true,
    )

pub returns-clause-few : goal.returns-clause-few
returns-clause-few c =
    let few = few_counted (numbers_at INDIRECT_INDEXES 0 c.args.block.now.bytes) c.counted-counted.result
    c.counted-counted.ensures in
    let long = numbers-length INDIRECT_INDEXES 0 c.args.block.now.bytes in
    omega (arith, few, long)

pub returns-clause-count : goal.returns-clause-count
returns-clause-count c = c.counted-counted.ensures.count

pub returns-clause-places : goal.returns-clause-places
returns-clause-places c =
    let from = c.data-data.ensures in
    let low = c.if-counted-data.false in
    all_placed c.args.geometry.now (numbers_at INDIRECT_INDEXES 0 c.args.block.now.bytes) c.counted-counted.result
    c.counted-counted.ensures (omega (arith, from, low)) c.if-geometry-counted.false
