use Rattle.std.proofs.Common.{rules, ap, sym, ◌∙◌}
use Rattle.nfs_spec.specs.Procedures.ReadLink.{target_of}
use Rattle.dir.proofs.Passed.{at_err}
use Rattle.procs_blocks.proofs.InodeNodes.{is_link, same_body}
use Rattle.procs_blocks.proofs.block_files.BlockFilesFiles.target.Goals as goal

pub returns-in_err-target_in-in-Some-clause-resumable : goal.returns-in_err-target_in-in-Some-clause-resumable
returns-in_err-target_in-in-Some-clause-resumable c =
    at_err c.from_residual-in_err-target_in-in-Some.result c.in_err-target_in-in-Some.field-0.0 _ (search rules)
    (λ blocks tree over. c.in_err-target_in-in-Some.ensures.resumable blocks tree c.args.link.now.number
    (rw c.in-Some.is at (c.in_ok-inode.ensures.ok blocks tree over)).0)

pub returns-in_ok-target_in-in-Some-clause-ok : goal.returns-in_ok-target_in-in-Some-clause-ok
returns-in_ok-target_in-in-Some-clause-ok c = λ blocks tree body over file link.
    let held = rw c.in-Some.is at (c.in_ok-inode.ensures.ok blocks tree over) in
    let kind = is_link c.args.self.now.snap.now blocks tree c.args.link.now body c.in-Some.inode held file link in
    let there = ap target_of
    (sym (same_body c.args.self.now.snap.now blocks tree c.args.link.now body c.in-Some.inode held file))
    ∙ c.in_ok-target_in-in-Some.ensures.ok blocks tree c.args.link.now.number held.0 kind in
    search (rules, there)
