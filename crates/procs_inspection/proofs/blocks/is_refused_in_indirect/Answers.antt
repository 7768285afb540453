use Rattle.std.proofs.Common.{inl, inr}
use Rattle.procs_inspection.specs.Refused.{refused_double, refused_indirect, refused_inner}
use Rattle.procs_inspection.proofs.blocks.is_refused_in_indirect.Goals as goal

pub returns-then-is_refused_pointer-clause-some : goal.returns-then-is_refused_pointer-clause-some
returns-then-is_refused_pointer-clause-some c = λ is blocks are.
    refused_indirect (c.is_refused_pointer.ensures.some c.if-is_refused_pointer.true blocks are)

pub returns-clause-some : goal.returns-clause-some
returns-clause-some c = λ is blocks are. elim (c.is_refused_double.ensures.some is blocks are) [
  | inl one ↦ refused_double one
  | inr below ↦ refused_inner below
]

pub returns-clause-none : goal.returns-clause-none
returns-clause-none c = λ is blocks saw refused. elim refused [
  | refused_indirect one ↦ c.is_refused_pointer.ensures.none c.if-is_refused_pointer.false blocks saw one
  | refused_double one ↦ c.is_refused_double.ensures.none is blocks saw (inl one)
  | refused_inner below ↦ c.is_refused_double.ensures.none is blocks saw (inr below)
]
