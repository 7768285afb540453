use Rattle.std.proofs.Common.{rules, sym, ◌∙◌, arith, subst, ◌<◌}
use Rattle.procs_files.proofs.FoundHere.{stale_free, stale_stamp, found, stamps_same, stamps_differ}
use Rattle.procs_files.proofs.found.find.Goals as goal

pub returns-in_default-2-clause-ok : goal.returns-in_default-2-clause-ok
returns-in_default-2-clause-ok g c = λ world tree stands.
    stale_free tree c.in-Some.number c.in-Some.stamp
    c.args.handle.now.bytes c.in-Some.ensures.some (search rules) (search rules) (search rules)
    (omega (arith, c.if-number-eq0.false))
    (subst (λ k. c.in-Some.number < k) (c.inodes.ensures world tree stands) (omega (arith, c.if-number-inodes.false)))
    (rw c.in_default-2.is at (c.in_ok-inode_attributes.ensures.ok world tree stands))

pub returns-then-ne-clause-ok : goal.returns-then-ne-clause-ok
returns-then-ne-clause-ok g c = λ world tree stands.
    stale_stamp tree c.in-Some.number c.in-Some.stamp
    c.args.handle.now.bytes c.in-Some.ensures.some (search rules) (search rules) (search rules)
    (omega (arith, c.if-number-eq0.false))
    (subst (λ k. c.in-Some.number < k) (c.inodes.ensures world tree stands) (omega (arith, c.if-number-inodes.false)))
    c.in-Some-2.inode_attributes
    (rw c.in-Some-2.is at (c.in_ok-inode_attributes.ensures.ok world tree stands))
    (stamps_differ c.in-Some-2.inode_attributes.stamp c.in-Some.stamp (sym c.ne.ensures ∙ c.if-ne.true))

pub returns-clause-ok : goal.returns-clause-ok
returns-clause-ok g c = λ world tree stands.
    found tree c.in-Some.number c.in-Some.stamp
    c.args.handle.now.bytes c.in-Some.ensures.some (search rules) (search rules) (search rules)
    (omega (arith, c.if-number-eq0.false))
    (subst (λ k. c.in-Some.number < k) (c.inodes.ensures world tree stands) (omega (arith, c.if-number-inodes.false)))
    c.in-Some-2.inode_attributes
    (rw c.in-Some-2.is at (c.in_ok-inode_attributes.ensures.ok world tree stands))
    (stamps_same c.in-Some-2.inode_attributes.stamp c.in-Some.stamp (sym c.ne.ensures ∙ c.if-ne.false))
