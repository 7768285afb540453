use Rattle.std.proofs.Common.{Some}
use Rattle.std.proofs.lemmas.Result.{IfErr-weaker, on_ok_weaker}
use Rattle.inode.specs.WriteSets.WriteSetContents.{image_of}
use Rattle.inode.proofs.WriteSetsLemmas.PutThere.{carried_there}
use Rattle.dir_writes.specs.Clearing.{without_name}
use Rattle.dir_writes.proofs.PreservedFile.{preserved_link, preserved_regular}
use Rattle.dir_writes.proofs.Places.{same_holds}
use Rattle.dir_writes.proofs.unlink.lose.Goals as goal

pub returns-in-Directory-clause-ok : goal.returns-in-Directory-clause-ok
returns-in-Directory-clause-ok c =
    on_ok_weaker c.lose_in.result (λ leads blocks tree node write_set was.
    leads blocks tree node write_set was (record {
      has = (carried_there c.args.write_set.now c.there.result.now blocks tree c.args.number (Some c.in-Ok-Some.inode)
          c.there.ensures.there (rw c.in-Ok-Some.field-0-is at c.in-Ok-Some.ensures.ok) write_set).0;
      kind = c.in-Directory.is;
    })) c.lose_in.ensures.ok

pub returns-in-Directory-clause-resumable : goal.returns-in-Directory-clause-resumable
returns-in-Directory-clause-resumable c =
    IfErr-weaker c.lose_in.result _ _ (λ why resumes blocks tree write_set.
    resumes blocks tree write_set (record {
      has = (carried_there c.args.write_set.now c.there.result.now blocks tree c.args.number (Some c.in-Ok-Some.inode)
          c.there.ensures.there (rw c.in-Ok-Some.field-0-is at c.in-Ok-Some.ensures.ok) write_set).0;
      kind = c.in-Directory.is;
    })) c.lose_in.ensures.resumable

pub returns-in-Regular-clause-ok : goal.returns-in-Regular-clause-ok
returns-in-Regular-clause-ok c = λ blocks tree node write_set was. record {
  shows = write_set.shows;
  holds = same_holds c.args.write_set.now.there.geometry (image_of blocks c.args.write_set.now) tree c.args.number node
      (without_name c.args.name.now node) write_set.holds was
      (preserved_regular c.args.write_set.now.there (image_of blocks c.args.write_set.now) tree c.args.number c.in-Ok-Some.inode
      c.args.name.now node
      (carried_there c.args.write_set.now c.there.result.now blocks tree c.args.number (Some c.in-Ok-Some.inode)
      c.there.ensures.there (rw c.in-Ok-Some.field-0-is at c.in-Ok-Some.ensures.ok) write_set).0 was c.in-Regular.is);
}

pub returns-in-Link-clause-ok : goal.returns-in-Link-clause-ok
returns-in-Link-clause-ok c = λ blocks tree node write_set was. record {
  shows = write_set.shows;
  holds = same_holds c.args.write_set.now.there.geometry (image_of blocks c.args.write_set.now) tree c.args.number node
      (without_name c.args.name.now node) write_set.holds was
      (preserved_link c.args.write_set.now.there (image_of blocks c.args.write_set.now) tree c.args.number c.in-Ok-Some.inode
      c.args.name.now node
      (carried_there c.args.write_set.now c.there.result.now blocks tree c.args.number (Some c.in-Ok-Some.inode)
      c.there.ensures.there (rw c.in-Ok-Some.field-0-is at c.in-Ok-Some.ensures.ok) write_set).0 was c.in-Link.is);
}
