use Rattle.std.proofs.Common.{inl, inr}
use Rattle.std.proofs.lemmas.Bool.{cases_lt}
use Rattle.procs_inspection.specs.Refused.{refused_numbers, refused_slots}
use Rattle.procs_inspection.proofs.blocks.has_refused_block.Goals as goal

pub returns-in-Directory-clause-some : goal.returns-in-Directory-clause-some
returns-in-Directory-clause-some c = λ is blocks are.
    let at = c.is_refused_directory.ensures.some is blocks are in
    refused_slots c.in-Directory.is at.0 at.1 at.2

pub returns-in-Directory-clause-none : goal.returns-in-Directory-clause-none
returns-in-Directory-clause-none c = λ is blocks saw valid_blocks refused. elim refused [
  | refused_numbers pointer ↦ c.is_refused_in_indirect.ensures.none c.if-is_refused_in_indirect.false blocks saw pointer
  | refused_slots kind index less at ↦ elim (cases_lt index c.args.valid_blocks) [
    | inl early ↦ valid_blocks index early at
    | inr late ↦ c.is_refused_directory.ensures.none is blocks index saw late less at
  ]
]
