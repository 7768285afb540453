use Rattle.std.proofs.Common.{rules, sym, subst, Some}
use Rattle.procs_files.specs.Heads.{IsFileAt}
use Rattle.dir.proofs.Passed.{at_err}
use Rattle.procs_blocks.proofs.InodeNodes.{is_file}
use Rattle.procs_blocks.proofs.heads.file.Goals as goal

pub returns-in_default-clause-ok : goal.returns-in_default-clause-ok
returns-in_default-clause-ok c = λ blocks tree over.
    rw c.in_default.is at (c.in_ok-inode.ensures.ok blocks tree over)

pub returns-clause-ok : goal.returns-clause-ok
returns-clause-ok c = λ blocks tree over.
    subst (λ inode_attributes. IsFileAt tree c.args.number (Some inode_attributes)) (sym c.inode_attributes_of.ensures)
    (is_file c.args.snap.now blocks tree c.args.number c.in_ok-used.used c.in-Some.inode
    (rw c.in-Some.is at (c.in_ok-inode.ensures.ok blocks tree over))
    (λ file has. c.in_ok-used.ensures.ok blocks tree file has))

pub returns-in_err-used-clause-resumable : goal.returns-in_err-used-clause-resumable
returns-in_err-used-clause-resumable c =
    at_err c.from_residual-in_err-used.result c.in_err-used.field-0.0 _ (search rules) (λ blocks tree over.
    c.in_err-used.ensures.resumable blocks tree c.args.number
    (rw c.in-Some.is at (c.in_ok-inode.ensures.ok blocks tree over)).0)
