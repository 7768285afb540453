use Rattle.std.proofs.Common.{sym, subst}
use Rattle.procs_inspection.specs.Refused.{HasRefusedSlot, WasReadBlock}
use Rattle.procs_inspection.proofs.blocks.is_refused_at.Goals as goal

pub returns-in-Some-read_block-clause-some : goal.returns-in-Some-read_block-clause-some
returns-in-Some-read_block-clause-some c = λ is blocks are.
    let read = c.in-Some-read_block.ensures.read blocks are in record {
      number = c.in-Some.number;
      named = c.in-Some.ensures.some blocks are;
      read = read;
      slot =
          subst (HasRefusedSlot c.args.snap.now.geometry.inodes)
          (c.in-Some-read_block.ensures.is blocks are.saw read) (c.has_refused_slot.ensures.some is);
    }

pub returns-in-Some-read_block-clause-none : goal.returns-in-Some-read_block-clause-none
returns-in-Some-read_block-clause-none c = λ is blocks saw at.
    let same = c.in-Some.ensures.one blocks at.number saw at.named in
    c.has_refused_slot.ensures.none is
    (subst (HasRefusedSlot c.args.snap.now.geometry.inodes)
    (sym (c.in-Some-read_block.ensures.is blocks saw (subst (WasReadBlock c.args.snap.now blocks) same at.read)))
    (subst (λ n. HasRefusedSlot c.args.snap.now.geometry.inodes (blocks n)) same at.slot))

pub returns-in-None-read_block-clause-none : goal.returns-in-None-read_block-clause-none
returns-in-None-read_block-clause-none c = λ is blocks saw at.
    c.in-None-read_block.ensures.none blocks
    (subst (WasReadBlock c.args.snap.now blocks) (c.in-Some.ensures.one blocks at.number saw at.named) at.read)

pub returns-in-None-clause-none : goal.returns-in-None-clause-none
returns-in-None-clause-none c = λ is blocks saw at. c.in-None.ensures.none blocks at.number at.named
