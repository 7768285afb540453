-- WRITE over any files is a step.
use Rattle.std.proofs.Common.{◌≡◌, ℕ, ◌+◌, ◌-◌, ◌≤◌, sym, ap, subst, ◌∙◌, refl, arith, Bool, true, false, cond, not, nat_eq, nat_lt, nat_le, List, [], ◌∷◌, length}
use Rattle.std.proofs.Common.{rules, Some, None, Result, Ok, Err}
use Rattle.std.proofs.lemmas.Bool.Decides.{nat_tests}
use Rattle.base.specs.declared.TheConstants.{LARGEST_FILE}
use Rattle.nfs_types.specs.declared.call.Stability.{Stability}
use Rattle.nfs_types.specs.declared.ctx.Credential.{Credential}
use Rattle.nfs_types.specs.declared.ctx.Ctx.{Ctx}
use Rattle.nfs_types.specs.declared.reply.Written.{Written}
use Rattle.nfs_types.specs.declared.status.Status.{Status}
use Rattle.nfs_types.specs.declared.status.Status.TheVariants as status
use Rattle.nfs_spec.specs.Model.Cost.{cost}
use Rattle.nfs_spec.specs.Model.Node.{Node, Body}
use Rattle.nfs_spec.specs.Model.Permissions.{may_write_file}
use Rattle.nfs_spec.specs.Model.SetAttr.{first_of_tests}
use Rattle.nfs_spec.specs.Model.Tree.{Tree, free, need, with_node}
use Rattle.nfs_spec.proofs.ProceduresLemmas.Sums.{need_of_one}
use Rattle.nfs_spec.specs.Procedures.Changes.{if_space}
use Rattle.nfs_spec.specs.Procedures.FirstTests.{unless}
use Rattle.nfs_spec.specs.Procedures.StepForms.{Effect}
use Rattle.nfs_spec.specs.Procedures.Write.{is_wrong_count, with_text, write, write_refusal, written, written_reply}
use Rattle.procs_files.specs.declared.inode_attributes.InodeAttributes.{InodeAttributes}
use Rattle.procs_files.specs.Writable.{adds, headed}
use Rattle.procs_files.specs.Heads.{IsFileIn, bare, node_of}
use Rattle.procs_files.proofs.KindsAgree.{regular_agrees}
use Rattle.procs_updates.specs.Writes.Acting.{IsActed, touched_inode_attributes}
use Rattle.procs_updates.proofs.WritesLemmas.Acted.{left_acted, put_acted, unless_none}
use Rattle.procs_updates.proofs.WritesLemmas.Touched.{headed_fits, headed_is, preserved_tree, text_alike, touched_fits}

pub write_agrees : (caller : Credential) (offset count : ℕ) (text : List ℕ) (tree : Tree) (inode_attributes : InodeAttributes) (body : Body)
    → IsFileIn tree inode_attributes body
    → write_refusal caller offset count text (bare inode_attributes) ≡ write_refusal caller offset count text (node_of inode_attributes body)
write_agrees caller offset count text tree inode_attributes body at =
    ap (λ b. first_of_tests ((not b, status.Inval)
    ∷ (is_wrong_count count text, status.Inval)
    ∷ (not (may_write_file caller (bare inode_attributes)), status.Acces)
    ∷ (nat_lt LARGEST_FILE (offset + count), status.FBig)
    ∷ [])) (sym (regular_agrees inode_attributes body at.fits.kind))

-- so many blocks are free
pub has_free_blocks : (has : Bool) (blocks has_space : ℕ) → has ≡ true → has ≡ nat_le blocks has_space → blocks ≤ has_space
has_free_blocks true blocks has_space has is = grind (arith, nat_tests, is)
has_free_blocks false blocks has_space has is = cc

pub not_lacking : (has_space blocks : ℕ) → blocks ≤ has_space → nat_lt has_space blocks ≡ false
not_lacking has_space blocks order = search rules

module _ (tree : Tree) (ctx : Ctx) (offset count : ℕ) (stability : Stability) (text : List ℕ) (file : InodeAttributes)
    (body : Body) (at : IsFileIn tree file body) where
  abbrev node : Node
  node = node_of file body

  abbrev reply : Written
  reply = written_reply ctx count stability

  abbrev new : Body
  new = with_text offset text body

  abbrev wrote : Result (Effect Written) Status
  wrote = write tree ctx offset count stability text file.number node

  abbrev after : Node → Result (Effect Written) Status
  after changed = cond (nat_lt (free tree) (need tree (with_node tree file.number changed))) (Err status.NoSpc)
      (Ok (record { answer = reply; next = with_node tree file.number changed }))

  passes : write_refusal ctx.credential offset count text node ≡ None → wrote ≡ after (written ctx.moment offset text node)
  passes is = unless_none (write_refusal ctx.credential offset count text node) _ is

  lacks : (changed : Node) (b : Bool) → nat_lt (free tree) (cost changed.body - cost body) ≡ b
      → after changed ≡ cond b (Err status.NoSpc)
      (Ok (record { answer = reply; next = with_node tree file.number changed }))
  lacks changed b is =
      ap (λ n. cond (nat_lt (free tree) n) (Err status.NoSpc)
      (Ok (record { answer = reply; next = with_node tree file.number changed })))
      (need_of_one tree file.number node changed at.there)
      ∙ ap (λ b. cond b (Err status.NoSpc)
      (Ok (record { answer = reply; next = with_node tree file.number changed }))) is

  -- nothing is written
  pub nothing_acted : (stands : Tree → Type 0) → write_refusal ctx.credential offset count text node ≡ None
      → nat_eq (length text) 0 ≡ true → stands tree → IsActed stands tree file.number wrote (Ok reply) file
  nothing_acted stands is empty stand =
      let same : written ctx.moment offset text node ≡ node =
      ap (λ b. cond b node (record node { mtime = ctx.moment; ctime = ctx.moment; body = new })) empty in
      let zero_more : cost body - cost body ≡ 0 = omega arith in
      let has_space : nat_lt (free tree) (cost body - cost body) ≡ false =
      not_lacking (free tree) (cost body - cost body) (omega (arith, zero_more)) in
      put_acted stands tree file.number wrote (Ok reply) file file body reply
      (passes is ∙ ap after same ∙ lacks node false has_space)
      (sym (headed_is file body at.fits)) refl
      (headed_fits file body body at.fits (record { kind = refl; parent = refl })) refl
      (subst stands (sym (preserved_tree tree file.number node at.there)) stand)

  written_is : nat_eq (length text) 0 ≡ false
      → written ctx.moment offset text node ≡ node_of (touched_inode_attributes ctx.moment file) new
  written_is some = ap (λ b. cond b node (record node { mtime = ctx.moment; ctime = ctx.moment; body = new })) some

  -- it is written
  pub text_acted : (stands : Tree → Type 0) (last : InodeAttributes)
      → write_refusal ctx.credential offset count text node ≡ None → nat_eq (length text) 0 ≡ false
      → nat_lt (free tree) (adds new body) ≡ false → last ≡ headed (touched_inode_attributes ctx.moment file) new
      → stands (with_node tree file.number (node_of (touched_inode_attributes ctx.moment file) new))
      → IsActed stands tree file.number wrote (Ok reply) last
  text_acted stands last is some has_space same stand =
      put_acted stands tree file.number wrote (Ok reply) last (touched_inode_attributes ctx.moment file) new reply
      (passes is ∙ ap after (written_is some) ∙ lacks (node_of (touched_inode_attributes ctx.moment file) new) false has_space)
      same refl
      (headed_fits (touched_inode_attributes ctx.moment file) body new (touched_fits ctx.moment file body at.fits)
      (text_alike offset text body)) refl stand

  -- there is no room for it
  pub no_space_acted : (stands : Tree → Type 0) (outcome : Result Written Status) (last : InodeAttributes)
      → write_refusal ctx.credential offset count text node ≡ None → nat_eq (length text) 0 ≡ false
      → nat_lt (free tree) (adds new body) ≡ true → outcome ≡ Err status.NoSpc → last ≡ file → stands tree
      → IsActed stands tree file.number wrote outcome last
  no_space_acted stands outcome last is some has_space proven same stand =
      left_acted stands tree wrote outcome last file body status.NoSpc at stand
      (passes is ∙ ap after (written_is some) ∙ lacks (node_of (touched_inode_attributes ctx.moment file) new) true has_space)
      proven same

  -- it is refused
  pub refused_acted : (stands : Tree → Type 0) (outcome : Result Written Status) (last : InodeAttributes) (why : Status)
      → write_refusal ctx.credential offset count text node ≡ Some why → outcome ≡ Err why → last ≡ file
      → stands tree → IsActed stands tree file.number wrote outcome last
  refused_acted stands outcome last why is proven same stand =
      left_acted stands tree wrote outcome last file body why at stand
      (ap (λ t. unless t (if_space tree (record {
        answer = reply;
        next = with_node tree file.number (written ctx.moment offset text node);
      }))) is) proven same
