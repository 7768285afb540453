use Rattle.std.proofs.Common.{◌≡◌, ◌∙◌, ap, sym, true, false}
use Rattle.std.specs.List.{list_all}
use Rattle.base.specs.declared.TheConstants.{INDIRECT_INDEXES}
use Rattle.layout.specs.Fields.{numbers_at}
use Rattle.layout.specs.InodeForm.{is_data_block_or_none}
use Rattle.procs_inspection.proofs.blocks.is_refused_pointer.Goals as goal

pub returns-in-Some-clause-some : goal.returns-in-Some-clause-some
returns-in-Some-clause-some c = λ is blocks are. record {
  read = c.in-Some.ensures.read blocks are;
  names = ap (λ l. list_all (is_data_block_or_none c.args.snap.now.geometry) (numbers_at INDIRECT_INDEXES 0 l))
      (sym (c.in-Some.ensures.is blocks are.saw (c.in-Some.ensures.read blocks are))) ∙ c.names_others.ensures.some is;
}

pub returns-in-Some-clause-none : goal.returns-in-Some-clause-none
returns-in-Some-clause-none c = λ is blocks saw refused.
    let clash : true ≡ false =
    sym (ap (λ l. list_all (is_data_block_or_none c.args.snap.now.geometry) (numbers_at INDIRECT_INDEXES 0 l))
    (sym (c.in-Some.ensures.is blocks saw refused.read)) ∙ c.names_others.ensures.none is) ∙ refused.names in
    cc

pub returns-in-None-clause-none : goal.returns-in-None-clause-none
returns-in-None-clause-none c = λ is blocks saw refused. c.in-None.ensures.none blocks refused.read
