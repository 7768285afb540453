-- What CREATE does with a file that is there.
use Rattle.std.proofs.Common.{◌≡◌, ◌^◌, ◌<◌, ℕ, sym, ap, subst, ◌∙◌, true, cond, ◌&&◌, Some, None}
use Rattle.std.proofs.Common.{Ok, Err}
use Rattle.nfs_types.specs.Fits.{NewAttributesFit}
use Rattle.nfs_types.specs.declared.attributes.NewAttributes.{NewAttributes}
use Rattle.nfs_types.specs.declared.call.CreateHow.{CreateHow}
use Rattle.nfs_types.specs.declared.call.CreateHow.TheVariants.{Unchecked, Exclusive}
use Rattle.nfs_types.specs.declared.ctx.Ctx.{Ctx}
use Rattle.nfs_types.specs.declared.reply.Created.{Created}
use Rattle.nfs_types.specs.declared.status.Status.TheVariants as status
use Rattle.nfs_types.specs.declared.verifier.Verifier.{Verifier}
use Rattle.nfs_spec.specs.Model.Node.{Node, Body}
use Rattle.nfs_spec.specs.Model.SetAttr.{given, is_regular, refusal, with_attributes, with_length}
use Rattle.nfs_spec.specs.Model.Sound.{Sound, SoundCtx}
use Rattle.nfs_spec.specs.Model.Tree.{Tree, with_node}
use Rattle.nfs_spec.specs.Procedures.Create.{becomes, create_over, is_made_with, only_size, resize, same_verifier}
use Rattle.nfs_spec.specs.Procedures.Fresh.{created}
use Rattle.procs_files.proofs.KindsAgree.{regular_agrees}
use Rattle.procs_files.specs.Writable.{SoundInodeAttributes, headed}
use Rattle.procs_files.specs.Heads.{IsBodyOf, IsDone, IsFileIn, bare, node_of, shell}
use Rattle.procs_files.specs.declared.inode_attributes.InodeAttributes.{InodeAttributes}
use Rattle.procs_names.proofs.LinksLemmas.Doing.{done_so, unless_passed}
use Rattle.procs_updates.proofs.WritesLemmas.SetSteps.{inode_attributes_sound, refusal_agrees, set_fits, set_leads}
use Rattle.procs_updates.specs.Writes.Acting.{set_inode_attributes}

module _ (tree : Tree) (good : Sound tree) (ctx : Ctx) (now : SoundCtx ctx) (size : ℕ) (small : size < 2 ^ 64)
    (file : InodeAttributes) (body : Body) (at : IsFileIn tree file body)
    (tested : refusal ctx (only_size size) None (bare file) ≡ None) where
  abbrev node : Node
  node = node_of file body

  abbrev sized : Node
  sized = with_attributes ctx.moment (only_size size) node

  abbrev inode_attributes : InodeAttributes
  inode_attributes = set_inode_attributes ctx.moment (only_size size) file

  passes : refusal ctx (only_size size) None node ≡ None
  passes = sym (refusal_agrees ctx (only_size size) None tree file body at) ∙ tested

  fits : NewAttributesFit (only_size size)
  fits = record { mode = tt; uid = tt; gid = tt; size = small; atime = tt; mtime = tt }

  pub can_be_sized : SoundInodeAttributes tree.geometry.inodes inode_attributes
  can_be_sized =
      inode_attributes_sound tree ctx (only_size size) None file body at passes
      (set_leads tree ctx (only_size size) None file body at good now fits)

  pub resize_done : (stands : Tree → Type 0) (last : InodeAttributes) (outcome : Created)
      → last ≡ headed inode_attributes (with_length (Some size) body)
      → ((b : Body) → IsBodyOf last b → outcome ≡ created last.number (node_of last b))
      → stands (with_node tree file.number sized)
      → IsDone stands tree (resize tree ctx (Some size) file.number node) (Ok outcome)
  resize_done stands last outcome last_is tells there =
      let long = with_length (Some size) body in
      let proven : outcome ≡ created file.number sized =
      tells long (subst (λ h. IsBodyOf h long) (sym last_is)
      (set_fits tree ctx (only_size size) None file body at))
      ∙ ap (λ (h : InodeAttributes). created h.number (node_of h long)) last_is in
      subst (λ o. IsDone stands tree (resize tree ctx (Some size) file.number node) (Ok o)) (sym proven)
      (done_so stands tree (resize tree ctx (Some size) file.number node) (becomes tree file.number sized)
      (unless_passed (refusal ctx (only_size size) None node) (Ok (becomes tree file.number sized)) passes)
      there)

module _ (tree : Tree) (ctx : Ctx) (file : InodeAttributes) (body : Body) (at : IsFileIn tree file body) (how : CreateHow) where
  pub over_regular : (wanted : NewAttributes) → how ≡ Unchecked wanted → is_regular (shell file) ≡ true
      → resize tree ctx wanted.size file.number (node_of file body)
      ≡ create_over tree ctx how file.number (node_of file body)
  over_regular wanted is regular =
      sym (ap (λ h. create_over tree ctx h file.number (node_of file body)) is
      ∙ ap (λ b. cond b (resize tree ctx wanted.size file.number (node_of file body)) (Err status.Exist))
      (regular_agrees file body at.fits.kind ∙ regular))

  pub over_made : (verifier : Verifier) → how ≡ Exclusive verifier → is_made_with verifier (bare file) ≡ true
      → resize tree ctx None file.number (node_of file body)
      ≡ create_over tree ctx how file.number (node_of file body)
  over_made verifier is made =
      sym (ap (λ h. create_over tree ctx h file.number (node_of file body)) is
      ∙ ap (λ b. cond b (resize tree ctx None file.number (node_of file body)) (Err status.Exist))
      (ap (λ b. b && given file.verifier (same_verifier verifier)) (regular_agrees file body at.fits.kind)
      ∙ made))
