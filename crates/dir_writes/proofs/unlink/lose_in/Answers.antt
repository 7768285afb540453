use Rattle.std.proofs.Common.{◌≡◌, ℕ, refl, subst, List, Option, Some, None}
use Rattle.std.proofs.lemmas.Result.{IfErr-weaker, on_ok_weaker}
use Rattle.std.specs.FinMap as map
use Rattle.std.specs.Option.{option_map}
use Rattle.disk.specs.Crash.{Image}
use Rattle.nfs_spec.specs.Model.Tree.{Tree, with_node}
use Rattle.procs_files.specs.declared.dirent.SlotDirent.{SlotDirent}
use Rattle.procs_files.specs.Heads.{dirent_of}
use Rattle.layout.specs.declared.inode.Inode.{Inode}
use Rattle.layout.specs.Decode.{entries_in}
use Rattle.layout.specs.Holds.{Holds}
use Rattle.layout.specs.Parts.{content_in}
use Rattle.inode.specs.declared.snap.Snap.{Snap}
use Rattle.dir.specs.Slots.{IsDirectoryOf}
use Rattle.inode.specs.WriteSets.WriteSetContents.{image_of}
use Rattle.inode.proofs.WriteSetsLemmas.PutThere.{moved_write_set}
use Rattle.dir_writes.specs.Clearing.{without_name}
use Rattle.dir_writes.proofs.PreservedFile.{preserved_directory}
use Rattle.dir_writes.proofs.LostName.{lost_file, lost_holds}
use Rattle.dir_writes.proofs.Places.{lies_at, same_holds}
use Rattle.dir_writes.proofs.unlink.lose_in.Goals as goal

-- what was found of what lies there
carried_over : (snap there : Snap) (image : Image) (tree : Tree) (n : ℕ) (inode : Inode) (name : List ℕ)
    (found : Option SlotDirent) → snap ≡ there
    → ((blocks : Image) (tree : Tree) (file : ℕ) → IsDirectoryOf snap blocks tree file inode
    → option_map dirent_of found ≡ map.get (entries_in snap.geometry.inodes (content_in snap.geometry blocks) inode) name)
    → IsDirectoryOf there image tree n inode
    → option_map dirent_of found
    ≡ map.get (entries_in there.geometry.inodes (content_in there.geometry image) inode) name
carried_over snap there image tree n inode name found same tells is =
    subst (λ (s : Snap). IsDirectoryOf s image tree n inode → option_map dirent_of found
    ≡ map.get (entries_in s.geometry.inodes (content_in s.geometry image) inode) name) same
    (λ one. tells image tree n one) is

pub returns-in-Ok-Some-clause-ok : goal.returns-in-Ok-Some-clause-ok
returns-in-Ok-Some-clause-ok c =
    on_ok_weaker c.erase_slot.result (λ leads blocks tree node write_set was is.
    let snap = c.args.write_set.now.there in
    let image = image_of blocks c.args.write_set.now in
    let n = c.args.number in
    let inode = c.args.inode.now in
    let name = c.args.name.now in
    let search_hit = c.in-Ok-Some.search_hit in
    let at = lies_at snap.geometry.inodes (content_in snap.geometry image) inode name search_hit
    (carried_over c.there.result.now snap image tree n inode name (Some search_hit) c.there.ensures.there
    (rw c.in-Ok-Some.field-0-is at c.in-Ok-Some.ensures.ok) is) in
    let both = leads blocks tree n write_set is at.less in
    let last = image_of blocks c.erase_slot.new.write_set in
    moved_write_set c.args.write_set.now c.erase_slot.new.write_set blocks last
    (with_node tree n (without_name name node)) c.erase_slot.ensures.geometry refl both.0
    (subst (λ t. Holds snap.geometry last t)
    (lost_file snap image tree n inode name search_hit.slot search_hit.number is at.less at.is node was)
    (lost_holds snap image tree n inode name search_hit.slot search_hit.number is at.less at.is last both.1)))
    c.erase_slot.ensures.ok

pub returns-in-Ok-Some-clause-resumable : goal.returns-in-Ok-Some-clause-resumable
returns-in-Ok-Some-clause-resumable c =
    IfErr-weaker c.erase_slot.result _ _ (λ why resumes blocks tree write_set is.
    let snap = c.args.write_set.now.there in
    let image = image_of blocks c.args.write_set.now in
    let n = c.args.number in
    let inode = c.args.inode.now in
    let name = c.args.name.now in
    let search_hit = c.in-Ok-Some.search_hit in
    let at = lies_at snap.geometry.inodes (content_in snap.geometry image) inode name search_hit
    (carried_over c.there.result.now snap image tree n inode name (Some search_hit) c.there.ensures.there
    (rw c.in-Ok-Some.field-0-is at c.in-Ok-Some.ensures.ok) is) in
    resumes blocks tree n write_set is at.less) c.erase_slot.ensures.resumable

pub returns-in-Ok-None-clause-ok : goal.returns-in-Ok-None-clause-ok
returns-in-Ok-None-clause-ok c = λ blocks tree node write_set was is.
    let snap = c.args.write_set.now.there in
    let image = image_of blocks c.args.write_set.now in
    let n = c.args.number in
    let inode = c.args.inode.now in
    let name = c.args.name.now in
    record {
      shows = write_set.shows;
      holds = same_holds snap.geometry image tree n node (without_name name node) write_set.holds was
          (preserved_directory snap image tree n inode name node is.has was is.kind
          (carried_over c.there.result.now snap image tree n inode name None c.there.ensures.there
          (rw c.in-Ok-None.field-0-is at c.in-Ok-None.ensures.ok) is));
    }
