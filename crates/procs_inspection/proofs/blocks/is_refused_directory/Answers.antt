use Rattle.std.proofs.Common.{◌≡◌, inl, inr, subst, arith}
use Rattle.std.proofs.lemmas.Bool.{cases_lt}
use Rattle.procs_inspection.specs.Refused.{IsRefusedAt}
use Rattle.procs_inspection.proofs.Files.{named_within}
use Rattle.procs_inspection.proofs.blocks.is_refused_directory.Goals as goal

pub returns-then-index-span-clause-none : goal.returns-then-index-span-clause-none
returns-then-index-span-clause-none c = λ is blocks index are above less at.
    let past = c.if-index-span.true in c.indexes.invariant blocks index are above (omega (arith, less, past)) at

pub indexes-preserved : goal.indexes-preserved
indexes-preserved c = λ blocks k are above less at. elim (cases_lt k c.indexes.index) [
  | inl before ↦ c.indexes.invariant blocks k are above before at
  | inr past ↦
      let same : k ≡ c.indexes.index = omega (arith, past, less) in
      c.is_refused_at.ensures.none c.if-is_refused_at.false blocks are
      (subst (IsRefusedAt c.args.snap.now blocks c.args.inode.now) same at)
]

pub returns-clause-none : goal.returns-clause-none
returns-clause-none c = λ is blocks index are above less at.
    let within = named_within c.args.snap.now blocks c.args.inode.now index at.number at.named in
    let past = c.indexes-test.false in
    let end = c.indexes.auto.index-end in
    c.indexes.invariant blocks index are above (omega (arith, within, past, end)) at
