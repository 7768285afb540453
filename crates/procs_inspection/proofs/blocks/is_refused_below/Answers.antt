use Rattle.std.proofs.Common.{sym, subst, get_or}
use Rattle.base.specs.declared.TheConstants.{INDIRECT_INDEXES}
use Rattle.layout.specs.Fields.{numbers_at}
use Rattle.procs_inspection.specs.Refused.{IsRefusedPointer}
use Rattle.procs_inspection.proofs.blocks.is_refused_below.Goals as goal

pub returns-in-Some-clause-some : goal.returns-in-Some-clause-some
returns-in-Some-clause-some c = λ is blocks are.
    let read = c.in-Some.ensures.read blocks are in
    let found = c.names_refused.ensures.some is blocks are in record {
      read = read;
      inner = found.0;
      less = found.1;
      is = subst (λ block. IsRefusedPointer c.args.snap.now blocks (get_or (numbers_at INDIRECT_INDEXES 0 block) found.0 0))
          (c.in-Some.ensures.is blocks are.saw read) found.2;
    }

pub returns-in-Some-clause-none : goal.returns-in-Some-clause-none
returns-in-Some-clause-none c = λ is blocks saw refused.
    c.names_refused.ensures.none is blocks refused.inner saw refused.less
    (subst (λ block. IsRefusedPointer c.args.snap.now blocks
    (get_or (numbers_at INDIRECT_INDEXES 0 block) refused.inner 0))
    (sym (c.in-Some.ensures.is blocks saw refused.read)) refused.is)

pub returns-in-None-clause-none : goal.returns-in-None-clause-none
returns-in-None-clause-none c = λ is blocks saw refused. c.in-None.ensures.none blocks refused.read
