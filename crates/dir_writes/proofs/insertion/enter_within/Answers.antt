use Rattle.std.proofs.Common.{◌≡◌, ℕ, ◌∙◌, ap, refl, subst, List}
use Rattle.std.proofs.lemmas.Result.{on_ok_weaker}
use Rattle.nfs_spec.specs.Model.Tree.{with_node}
use Rattle.layout.specs.Decode.{inode_at}
use Rattle.layout.specs.SlotForm.{used_bytes}
use Rattle.inode.specs.WriteSets.WriteSetContents.{image_of}
use Rattle.inode.proofs.WriteSetsLemmas.PutThere.{moved_write_set}
use Rattle.dir_writes.specs.NameInsertion.{with_name}
use Rattle.dir_writes.specs.SlotWrites.{IsSlottedIn}
use Rattle.dir_writes.proofs.EnteredHolds.{entered_holds, entered_inode}
use Rattle.dir_writes.proofs.insertion.enter_within.Goals as goal

pub returns-clause-ok : goal.returns-clause-ok
returns-clause-ok c =
    on_ok_weaker c.put_slot.result (λ leads blocks tree number node write_set was is less can.
    let snap = c.args.write_set.now.there in
    let image = image_of blocks c.args.write_set.now in
    let inode = c.args.inode.now in
    let name = c.args.name.now in
    let dirent = c.args.dirent_number in
    let both = leads blocks tree number write_set is less in
    let last = image_of blocks c.put_slot.new.write_set in
    let spelled : c.deref.result.now ≡ used_bytes (record { number = dirent; name = name }) =
    c.deref.ensures.value ∙ c.in_ok-bytes.ensures.bytes in
    let put = subst (λ (b : List ℕ). IsSlottedIn snap.geometry inode c.args.slot b image last) spelled both.1 in (
      moved_write_set c.args.write_set.now c.put_slot.new.write_set blocks last
          (with_node tree number (with_name name dirent c.args.slot node)) c.put_slot.ensures.geometry refl both.0
          (entered_holds snap image tree number inode name dirent c.args.slot is node was can less last put),
      ap (λ g. inode_at g last number) c.put_slot.ensures.geometry
          ∙ entered_inode snap image tree number inode name dirent c.args.slot is node was can less last put,
    )) c.put_slot.ensures.ok
