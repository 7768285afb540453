use Rattle.std.proofs.Common.{◌≤◌, subst, Some, None, arith}
use Rattle.std.proofs.lemmas.Result.{IfErr-weaker, on_ok_weaker}
use Rattle.inode.specs.declared.snap.Snap.{Snap}
use Rattle.inode.proofs.HeldThere.{none_past}
use Rattle.inode.specs.WriteSets.WriteSetContents.{image_of}
use Rattle.inode.proofs.WriteSetsLemmas.PutThere.{over_of, carried_there}
use Rattle.bitmap.proofs.InodesLemmas.Removed.{none_removed}
use Rattle.bitmap.proofs.inodes.removal.remove.Goals as goal

pub returns-then-number-there-clause-ok : goal.returns-then-number-there-clause-ok
returns-then-number-there-clause-ok c = λ blocks tree write_set.
    let past : c.there.result.now.geometry.inodes ≤ c.args.number = omega (arith, c.if-number-there.true) in
    record {
      shows = write_set.shows;
      holds = none_removed c.args.write_set.now.there.geometry (image_of blocks c.args.write_set.now) tree c.args.number
          write_set.holds
          (none_past c.args.write_set.now.there (image_of blocks c.args.write_set.now) tree c.args.number
          (subst (λ (s : Snap). s.geometry.inodes ≤ c.args.number) c.there.ensures.there past)
          (over_of c.args.write_set.now blocks tree write_set));
    }

pub returns-in-Ok-Some-clause-ok : goal.returns-in-Ok-Some-clause-ok
returns-in-Ok-Some-clause-ok c =
    on_ok_weaker c.remove_file.result (λ leads blocks tree write_set.
    leads blocks tree write_set
    (carried_there c.args.write_set.now c.there-2.result.now blocks tree c.args.number (Some c.in-Ok-Some.inode)
    c.there-2.ensures.there (rw c.in-Ok-Some.field-0-is at c.in-Ok-Some.ensures.ok) write_set).0)
    c.remove_file.ensures.ok

pub returns-in-Ok-Some-clause-resumable : goal.returns-in-Ok-Some-clause-resumable
returns-in-Ok-Some-clause-resumable c =
    IfErr-weaker c.remove_file.result _ _ (λ why resumes blocks tree write_set.
    resumes blocks tree write_set
    (carried_there c.args.write_set.now c.there-2.result.now blocks tree c.args.number (Some c.in-Ok-Some.inode)
    c.there-2.ensures.there (rw c.in-Ok-Some.field-0-is at c.in-Ok-Some.ensures.ok) write_set).0)
    c.remove_file.ensures.resumable

pub returns-in-Ok-None-clause-ok : goal.returns-in-Ok-None-clause-ok
returns-in-Ok-None-clause-ok c = λ blocks tree write_set. record {
  shows = write_set.shows;
  holds = none_removed c.args.write_set.now.there.geometry (image_of blocks c.args.write_set.now) tree c.args.number
      write_set.holds
      (carried_there c.args.write_set.now c.there-2.result.now blocks tree c.args.number None
      c.there-2.ensures.there (rw c.in-Ok-None.field-0-is at c.in-Ok-None.ensures.ok) write_set);
}
