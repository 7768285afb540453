use Rattle.std.proofs.Common.{inl, inr}
use Rattle.procs_inspection.proofs.blocks.is_refused_double.Goals as goal

pub returns-then-is_refused_pointer-clause-some : goal.returns-then-is_refused_pointer-clause-some
returns-then-is_refused_pointer-clause-some c = λ is blocks are.
    inl (c.is_refused_pointer.ensures.some c.if-is_refused_pointer.true blocks are)

pub returns-clause-some : goal.returns-clause-some
returns-clause-some c = λ is blocks are. inr (c.is_refused_below.ensures.some is blocks are)

pub returns-clause-none : goal.returns-clause-none
returns-clause-none c = λ is blocks saw refused. elim refused [
  | inl one ↦ c.is_refused_pointer.ensures.none c.if-is_refused_pointer.false blocks saw one
  | inr below ↦ c.is_refused_below.ensures.none is blocks saw below
]
