-- Its sizes aren't the device's, or no boot number is left.
use Rattle.std.proofs.Common.{arith, inl, inr, rules}
use Rattle.store_images.proofs.opening.super_in.Goals as goal

pub returns-then-found-blocks-clause-refused : goal.returns-then-found-blocks-clause-refused
returns-then-found-blocks-clause-refused c = inr (
  c.in-Ok.found,
  search rules,
  elim c.then-found-blocks.either [
    | inl other ↦ inl other
    | inr last ↦ inr (omega (arith, last.1))
  ],
)
