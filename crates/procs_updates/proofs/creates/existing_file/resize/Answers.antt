use Rattle.std.proofs.Common.{◌≡◌, ◌^◌, ◌<◌, IfSome, sym, subst, ◌∙◌, Ok, None}
use Rattle.nfs_spec.specs.Model.SetAttr.{refusal, with_attributes, with_length}
use Rattle.nfs_spec.specs.Model.Tree.{with_node}
use Rattle.nfs_spec.specs.Procedures.Create.{resize}
use Rattle.procs_files.specs.Writable.{SoundInodeAttributes, headed}
use Rattle.procs_files.specs.Heads.{IsDone, bare, node_of}
use Rattle.procs_updates.specs.Writes.Acting.{set_inode_attributes}
use Rattle.procs_updates.proofs.CreatesLemmas.Resized.{can_be_sized, resize_done}
use Rattle.procs_updates.proofs.creates.existing_file.resize.Goals as goal

pub returns-clause-ok : goal.returns-clause-ok
returns-clause-ok g c = λ world tree body stands at good now fits.
    let ctx = c.args.ctx.now in
    let file = c.args.file.now in
    let node = node_of file body in
    let new = g.F.Files.stands c.set_file.new.files world in
    let last = c.in_ok-last.last in
    let small = subst (λ s. IfSome s (λ n. n < 2 ^ 64)) c.in-Some.is fits in
    let tested = subst (λ w. refusal ctx w None (bare file) ≡ None) c.only_size-wanted.ensures
    (sym c.set_refusal.ensures ∙ c.in_default-set_refusal.is) in
    let set = subst (λ w. SoundInodeAttributes tree.geometry.inodes (set_inode_attributes ctx.moment w file)
    → (last ≡ headed (set_inode_attributes ctx.moment w file) (with_length w.size body))
    × new (with_node tree file.number (with_attributes ctx.moment w node))) c.only_size-wanted.ensures
    (λ sound. c.in_ok-last.ensures.ok world tree body stands at sound)
    (can_be_sized tree good ctx now c.in-Some.size small file body at tested) in
    subst (λ s. IsDone new tree (resize tree ctx s file.number node) (Ok c.in_ok-created-2.field-0)) (sym c.in-Some.is)
    (resize_done tree good ctx now c.in-Some.size small file body at tested new last c.in_ok-created-2.field-0 set.0
    c.in_ok-created-2.ensures set.1)
