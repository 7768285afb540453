use Rattle.std.proofs.Common.{subst, refl, ◌≤◌}
use Rattle.nfs_spec.specs.Model.Tree.{free}
use Rattle.nfs_spec.specs.Procedures.Write.{with_text}
use Rattle.procs_files.specs.Writable.{adds}
use Rattle.procs_files.specs.Heads.{node_of}
use Rattle.procs_updates.proofs.WritesLemmas.Touched.{touched_fits}
use Rattle.procs_updates.proofs.WritesLemmas.WriteSteps.{has_free_blocks, not_lacking}
use Rattle.procs_updates.proofs.writes.data_writes.write_text.Goals as goal

pub returns-clause-ok : goal.returns-clause-ok
returns-clause-ok g c = λ world tree body stands at sound.
    let text = c.args.text.now in
    let blocks = c.in_ok-blocks.ensures.ok world tree body text stands at refl in
    let has_space = subst (λ n. n ≤ free tree) blocks
    (has_free_blocks c.in_ok-has_free_blocks.field-0 c.in_ok-blocks.blocks (free tree) c.if-not-branch.false
    (c.in_ok-has_free_blocks.ensures.ok world tree stands)) in
    let wrote = (rw c.touched_inode_attributes-inode_attributes.ensures at c.in_ok-write.ensures.ok) world tree
    (node_of c.args.file.now body) stands at.there
    (touched_fits c.args.moment.now c.args.file.now body at.fits) sound has_space in (
      not_lacking (free tree) (adds (with_text c.args.offset text body) body) has_space,
      wrote.0,
      wrote.1,
    )
