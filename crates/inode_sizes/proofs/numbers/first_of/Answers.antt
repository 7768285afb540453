use Rattle.std.proofs.Common.{◌∙◌, ◌-◌, ◌++◌, length, take, replicate, arith}
use Rattle.std.proofs.lemmas.List.{take_all, length-take-le}
use Rattle.inode_sizes.proofs.numbers.first_of.Goals as goal

pub returns-clause-is : goal.returns-clause-is
returns-clause-is c =
    let numbers = c.args.numbers.now in
    let count = length-take-le c.args.count numbers c.requires in
    let few = c.requires in
    c.in_ok-resize.ensures.items
    ∙ (λ i. take (length numbers) (c.in_ok-first.ensures.items i)
    ++ replicate (length numbers - c.in_ok-first.ensures.len i) 0)
    ∙ (λ i. take_all (length numbers) (take c.args.count numbers) (omega (arith, count, few)) i
    ++ replicate (length numbers - count i) 0)
