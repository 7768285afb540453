use Rattle.std.proofs.Common.{◌≡◌, ◌∙◌, ap, sym, subst, inl, inr, get_or, arith}
use Rattle.std.proofs.lemmas.Bool.{cases_lt}
use Rattle.base.specs.declared.TheConstants.{INDIRECT_INDEXES}
use Rattle.layout.specs.Fields.{numbers_at}
use Rattle.procs_inspection.specs.Refused.{IsRefusedPointer}
use Rattle.procs_inspection.proofs.blocks.names_refused.Goals as goal

pub returns-then-is_refused_pointer-clause-some : goal.returns-then-is_refused_pointer-clause-some
returns-then-is_refused_pointer-clause-some c = λ is blocks are.
    let less = c.inners-test.true in (
      c.inners.inner,
      omega (arith, less),
      subst (IsRefusedPointer c.args.snap.now blocks) c.at.ensures
          (c.is_refused_pointer.ensures.some c.if-is_refused_pointer.true blocks are),
    )

pub inners-preserved : goal.inners-preserved
inners-preserved c = λ blocks k saw less refused. elim (cases_lt k c.inners.inner) [
  | inl before ↦ c.inners.invariant blocks k saw before refused
  | inr past ↦
      let same : k ≡ c.inners.inner = omega (arith, past, less) in
      c.is_refused_pointer.ensures.none c.if-is_refused_pointer.false blocks saw
      (subst (IsRefusedPointer c.args.snap.now blocks)
      (ap (λ n. get_or (numbers_at INDIRECT_INDEXES 0 c.args.block.now) n 0) same ∙ sym c.at.ensures) refused)
]

pub returns-clause-none : goal.returns-clause-none
returns-clause-none c = λ is blocks inner saw less refused.
    let past = c.inners-test.false in
    let end = c.inners.auto.inner-end in
    c.inners.invariant blocks inner saw (omega (arith, less, past, end)) refused
