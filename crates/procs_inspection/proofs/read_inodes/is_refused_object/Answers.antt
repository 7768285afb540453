use Rattle.std.proofs.Common.{◌∙◌, sym, subst}
use Rattle.inode.proofs.ReadThere.{read_there}
use Rattle.layout_records.specs.OnGrid.{IsInodeAt}
use Rattle.procs_inspection.proofs.Files.{same_file}
use Rattle.procs_inspection.proofs.read_inodes.is_refused_object.Goals as goal

pub returns-in-Some-clause-some : goal.returns-in-Some-clause-some
returns-in-Some-clause-some c = λ is blocks are read.
    let g = c.args.snap.now.geometry in
    let at = subst (IsInodeAt g c.in-Some.number) c.addr.ensures c.in-Some.ensures.some in (
      c.in-Some.number,
      at,
      c.is_refused_inode.ensures.some is blocks are
          (read_there g blocks c.in-Some.number c.args.object.now.addr c.bytes.result.now at.block at.offset at.len
          (read ∙ sym c.bytes.ensures.bytes)),
    )

pub returns-in-Some-clause-none : goal.returns-in-Some-clause-none
returns-in-Some-clause-none c = λ is blocks number are read at refused.
    let g = c.args.snap.now.geometry in
    let addr = c.args.object.now.addr in
    let bytes = c.bytes.result.now in
    let own = subst (IsInodeAt g c.in-Some.number) c.addr.ensures c.in-Some.ensures.some in
    let here = read_there g blocks c.in-Some.number addr bytes own.block own.offset own.len
    (read ∙ sym c.bytes.ensures.bytes) in
    let there = read_there g blocks number addr bytes at.block at.offset at.len (read ∙ sym c.bytes.ensures.bytes) in
    c.is_refused_inode.ensures.none is blocks are here
    (same_file c.args.snap.now blocks number c.in-Some.number (there ∙ sym here) refused)
