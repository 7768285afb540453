use Rattle.std.proofs.Common.{ap, ◌∙◌, ℕ, ◌+◌, cond, nat_eq, ◌++◌, [], ◌∷◌, filter}
use Rattle.inode_sizes.specs.Cut.{is_some}
use Rattle.inode_sizes.proofs.FirstOnes.{left_over_is, lost_is}
use Rattle.inode_sizes.proofs.numbers.cut_row.Goals as goal

pub returns-clause-is : goal.returns-clause-is
returns-clause-is c =
    let pointer = c.args.pointer in
    let stay = c.in_ok-left_over.left_over.numbers.items in
    let count = c.in_ok-left_over.ensures.count in
    let lost = ap (λ (n : ℕ). cond (nat_eq n 0) pointer 0) count ∙ lost_is pointer stay in
    record {
      numbers_are = c.in_ok-left_over.ensures.numbers;
      pointer_is = c.in_ok-now.ensures.is ∙ ap (λ (n : ℕ). cond (nat_eq n 0) 0 pointer) count ∙ left_over_is pointer stay;
      used_is = λ i. c.one_of.ensures.is i + count i;
      gone_are = c.in_ok-now.ensures.gone
          ∙ (λ i. c.in_ok-left_over.ensures.gone i ++ filter is_some (lost i ∷ []));
    }
