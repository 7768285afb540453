use Rattle.std.proofs.Common.{◌≡◌, sym, ◌∙◌, Some}
use Rattle.std.proofs.lemmas.Result.{IfErr-weaker}
use Rattle.disk.specs.Crash.{Image}
use Rattle.nfs_spec.specs.Model.Tree.{Tree}
use Rattle.layout.specs.declared.inode.InodeKind.TheVariants as kinds
use Rattle.layout.specs.Decode.{node_with}
use Rattle.inode.specs.Shown.{body_in}
use Rattle.inode.specs.WriteSets.WriteSetContents.{IsWriteSet, image_of}
use Rattle.inode.proofs.WriteSetsLemmas.PutThere.{carried_there}
use Rattle.bitmap.proofs.OfResults.{mapped}
use Rattle.inode_data.specs.Written.{NamesRegular, rewritten}
use Rattle.inode_data.proofs.Whole.{same_file, same_holds}
use Rattle.inode_data.proofs.writes.write.Goals as goal

-- the file's inode, as it was read
abbrev names_regular : (c : goal.After-write_all) (blocks : Image) (tree : Tree)
    → IsWriteSet c.args.write_set.now blocks tree → NamesRegular c.args.write_set.now blocks c.args.number c.in-Ok-Some.inode
names_regular c blocks tree write_set =
    let proven = carried_there c.args.write_set.now c.there.result.now blocks tree c.args.number (Some c.in-Ok-Some.inode)
    c.there.ensures.there (rw c.in-Ok-Some.field-0-is at c.in-Ok-Some.ensures.ok) write_set in
    record { less = proven.0.less; read = proven.0.there; regular = c.in-Regular.is }

pub returns-in-Regular-clause-ok : goal.returns-in-Regular-clause-ok
returns-in-Regular-clause-ok c =
    mapped _ _ (λ done leads yes blocks tree write_set. leads yes blocks tree write_set (names_regular c blocks tree write_set))
    c.write_all.result c.write_all.ensures.ok

pub returns-in-Regular-clause-has_space : goal.returns-in-Regular-clause-has_space
returns-in-Regular-clause-has_space c =
    mapped _ _ (λ done leads blocks tree node write_set was has_space.
    leads blocks tree node write_set (names_regular c blocks tree write_set) was has_space)
    c.write_all.result c.write_all.ensures.has_space

pub returns-in-Regular-clause-resumable : goal.returns-in-Regular-clause-resumable
returns-in-Regular-clause-resumable c =
    IfErr-weaker c.write_all.result _ _ (λ why resumes blocks tree write_set.
    resumes blocks tree write_set (names_regular c blocks tree write_set)) c.write_all.ensures.resumable

pub returns-in-Directory-clause-ok : goal.returns-in-Directory-clause-ok
returns-in-Directory-clause-ok c = λ yes blocks tree write_set.
    let n = c.args.number in
    let inode = c.in-Ok-Some.inode in
    let there = c.args.write_set.now.there in
    let base = image_of blocks c.args.write_set.now in
    let proven = carried_there c.args.write_set.now c.there.result.now blocks tree n (Some inode) c.there.ensures.there
    (rw c.in-Ok-Some.field-0-is at c.in-Ok-Some.ensures.ok) write_set in
    let node = node_with inode (body_in there.geometry base inode) in
    record {
      node = node;
      was = proven.1;
      is = record {
        shows = write_set.shows;
        holds = same_holds there.geometry base tree n node (rewritten c.args.offset c.args.text.now node) write_set.holds
            proven.1 (same_file there base tree n inode node c.args.offset c.args.text.now proven proven.1
            (λ other. let clash : kinds.Directory ≡ kinds.Regular = sym c.in-Directory.is ∙ other in cc));
      };
    }

pub returns-in-Link-clause-ok : goal.returns-in-Link-clause-ok
returns-in-Link-clause-ok c = λ yes blocks tree write_set.
    let n = c.args.number in
    let inode = c.in-Ok-Some.inode in
    let there = c.args.write_set.now.there in
    let base = image_of blocks c.args.write_set.now in
    let proven = carried_there c.args.write_set.now c.there.result.now blocks tree n (Some inode) c.there.ensures.there
    (rw c.in-Ok-Some.field-0-is at c.in-Ok-Some.ensures.ok) write_set in
    let node = node_with inode (body_in there.geometry base inode) in
    record {
      node = node;
      was = proven.1;
      is = record {
        shows = write_set.shows;
        holds = same_holds there.geometry base tree n node (rewritten c.args.offset c.args.text.now node) write_set.holds
            proven.1 (same_file there base tree n inode node c.args.offset c.args.text.now proven proven.1
            (λ other. let clash : kinds.Link ≡ kinds.Regular = sym c.in-Link.is ∙ other in cc));
      };
    }
