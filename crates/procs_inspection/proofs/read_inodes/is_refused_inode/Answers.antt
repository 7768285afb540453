use Rattle.std.proofs.Common.{◌∙◌, sym, ap, Option, Ok}
use Rattle.layout.specs.declared.inode.Inode.{Inode}
use Rattle.procs_inspection.specs.Refused.{refused_block, refused_inode}
use Rattle.procs_inspection.proofs.Files.{none_refused, of_none, of_some}
use Rattle.procs_inspection.proofs.read_inodes.is_refused_inode.Goals as goal

pub returns-in-Ok-Some-clause-some : goal.returns-in-Ok-Some-clause-some
returns-in-Ok-Some-clause-some c = λ is blocks are read.
    refused_block c.in-Ok-Some.inode (read ∙ sym c.read.ensures.value ∙ c.in-Ok-Some.is ∙ ap (λ (o : Option Inode). Ok o) c.in-Ok-Some.field-0-is)
    (c.has_refused_block.ensures.some is blocks are)

pub returns-in-Ok-Some-clause-none : goal.returns-in-Ok-Some-clause-none
returns-in-Ok-Some-clause-none c = λ is blocks are read refused.
    let there = read ∙ sym c.read.ensures.value ∙ c.in-Ok-Some.is ∙ ap (λ (o : Option Inode). Ok o) c.in-Ok-Some.field-0-is in
    c.has_refused_block.ensures.none is blocks are
    (λ index less at. none_refused c.args.snap.now blocks c.in-Ok-Some.inode index
    (c.valid_count.ensures c.args.snap.now blocks c.in-Ok-Some.inode index c.requires.known are there less) at)
    (of_some c.args.snap.now blocks c.args.number c.in-Ok-Some.inode
    (read ∙ sym c.read.ensures.value ∙ c.in-Ok-Some.is ∙ ap (λ (o : Option Inode). Ok o) c.in-Ok-Some.field-0-is)
    refused)

pub returns-in-Ok-None-clause-none : goal.returns-in-Ok-None-clause-none
returns-in-Ok-None-clause-none c = λ is blocks are read refused.
    of_none c.args.snap.now blocks c.args.number
    (read ∙ sym c.read.ensures.value ∙ c.in-Ok-None.is ∙ ap (λ (o : Option Inode). Ok o) c.in-Ok-None.field-0-is) refused

pub returns-in-Err-clause-some : goal.returns-in-Err-clause-some
returns-in-Err-clause-some c = λ is blocks are read.
    refused_inode c.in-Err.field-0 (read ∙ sym c.read.ensures.value ∙ c.in-Err.is)
