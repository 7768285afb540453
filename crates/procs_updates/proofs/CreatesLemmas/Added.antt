-- New files under their numbers, and their sizes.
use Rattle.std.proofs.Common.{◌≡◌, ℕ, ◌+◌, ◌*◌, ◌≤◌, sym, ap, subst, ◌∙◌, refl, Bool, true, false, cond, not, ◌||◌}
use Rattle.std.proofs.Common.{◌&&◌, nat_lt, List, [], ◌∷◌, is_some, Option, Some, None, arith}
use Rattle.std.proofs.lemmas.Bool.Decides.{nat_tests}
use Rattle.std.specs.Cmp.{nat_cmp_total}
use Rattle.std.specs.FinMap.{FinMap, get-insert, insert, nat_cmp-IsAntisymmetric, same_map}
use Rattle.std.specs.FinMap as map
use Rattle.std.specs.FinSet as set
use Rattle.std.specs.Ordering.{eq_by_cmp, nat_cmp}
use Rattle.base.specs.declared.TheConstants.{BLOCK_BYTES, LARGEST_FILE}
use Rattle.nfs_types.specs.declared.attributes.FileKind.TheVariants as kinds
use Rattle.nfs_types.specs.declared.attributes.NewAttributes.{NewAttributes}
use Rattle.nfs_types.specs.declared.ctx.Ctx.{Ctx}
use Rattle.nfs_types.specs.declared.ctx.Moment.{Moment}
use Rattle.nfs_types.specs.declared.status.Status.TheVariants as status
use Rattle.nfs_spec.proofs.ModelLemmas.Costs.{no_cost}
use Rattle.nfs_spec.specs.Model.Attributes.{kind_of}
use Rattle.nfs_spec.specs.Model.Cost.{cost, file_cost}
use Rattle.nfs_spec.specs.Model.Names.{is_directory}
use Rattle.nfs_spec.specs.Model.Node.{Node, Body, DirentValue, Regular, Directory, Link}
use Rattle.nfs_spec.specs.Model.SetAttr.{fails_guard, first_of_tests, given, is_no_access, is_no_time, is_not_permitted}
use Rattle.nfs_spec.specs.Model.SetAttr.{refusal, with_length}
use Rattle.nfs_spec.specs.Model.Sound.{SoundBody}
use Rattle.nfs_spec.specs.Model.Tree.{Tree, free, with_node}
use Rattle.nfs_spec.specs.Procedures.Changes.{entered, with_dirent}
use Rattle.nfs_spec.specs.Procedures.Fresh.{IsUnused}
use Rattle.procs_files.proofs.KindsAgree.{regular_agrees}
use Rattle.procs_files.specs.Writable.{SoundInodeAttributes, first_body}
use Rattle.procs_files.specs.Heads.{IsBodyOf, bare, is_kind_directory, is_kind_regular, node_of}
use Rattle.procs_files.specs.declared.inode_attributes.InodeAttributes.{InodeAttributes}
use Rattle.procs_updates.specs.Creates.Making.{CanMakeIn}

-- ---- a file that is put twice

twice : (b : Bool) (v w : Node) (o : Option Node) → cond b (Some w) (cond b (Some v) o) ≡ cond b (Some w) o
twice true v w o = refl
twice false v w o = refl

pub put_again : (tree : Tree) (number : ℕ) (one other : Node)
    → with_node (with_node tree number one) number other ≡ with_node tree number other
put_again tree number one other =
    ap (λ (nodes : FinMap nat_cmp Node). record { geometry = tree.geometry; nodes = nodes })
    (same_map nat_cmp_total nat_cmp-IsAntisymmetric _ _ (λ q.
    get-insert nat_cmp_total (insert tree.nodes number one) number other q
    ∙ ap (cond (eq_by_cmp nat_cmp q number) (Some other)) (get-insert nat_cmp_total tree.nodes number one q)
    ∙ twice (eq_by_cmp nat_cmp q number) one other _
    ∙ sym (get-insert nat_cmp_total tree.nodes number other q)))

-- ---- what is made

pub made_there : (stands : Tree → Type 0) (middle : Tree) (inode_attributes : InodeAttributes) (target : List ℕ) (body : Body)
    → first_body inode_attributes target ≡ body → IsBodyOf inode_attributes body → CanMakeIn middle inode_attributes body
    → (IsUnused middle inode_attributes.number → IsBodyOf inode_attributes (first_body inode_attributes target)
    → SoundInodeAttributes middle.geometry.inodes inode_attributes → SoundBody (first_body inode_attributes target)
    → cost (first_body inode_attributes target) ≤ free middle
    → stands (with_node middle inode_attributes.number (node_of inode_attributes (first_body inode_attributes target))))
    → stands (with_node middle inode_attributes.number (node_of inode_attributes body))
made_there stands middle inode_attributes target body first fits can then =
    subst (λ b. stands (with_node middle inode_attributes.number (node_of inode_attributes b))) first
    (then can.unused (subst (IsBodyOf inode_attributes) (sym first) fits) can.sound (subst SoundBody (sym first) can.lawful)
    (subst (λ b. cost b ≤ free middle) (sym first) can.has_space))

-- ---- blocks

pub no_blocks : cost (Regular [] set.empty) ≡ 0
no_blocks = no_cost

pub regular_cost : (inode_attributes : InodeAttributes) (target : List ℕ) → inode_attributes.kind ≡ kinds.Regular
    → 0 ≡ cost (first_body inode_attributes target)
regular_cost inode_attributes target is =
    sym (ap (λ k. cost (first_body (record inode_attributes { kind = k }) target)) is ∙ no_blocks)

never_below : (size : ℕ) → nat_lt size 0 ≡ false
never_below size = grind (arith, nat_tests)

-- a new file takes no block for a size that is given
pub sized_cost : (inode_attributes : InodeAttributes) (target : List ℕ) (size : Option ℕ)
    → cost (with_length size (first_body inode_attributes target)) ≡ cost (first_body inode_attributes target)
sized_cost inode_attributes target size = by (is_kind_directory inode_attributes.kind) (is_kind_regular inode_attributes.kind) size
  where
    body : Bool → Bool → Body
    body dir regular = cond dir (Directory map.empty 0 inode_attributes.parent)
        (cond regular (Regular [] set.empty) (Link target))

    by : (dir regular : Bool) (size : Option ℕ)
        → cost (with_length size (body dir regular)) ≡ cost (body dir regular)
    by dir regular None = refl
    by true regular (Some size) = refl
    by false true (Some size) =
        ap (λ b. file_cost (cond b (set.retain set.empty (λ index. nat_lt (index * BLOCK_BYTES) size)) set.empty))
        (never_below size)
    by false false (Some size) = refl

pub sized_kind : (size : Option ℕ) (body : Body) → is_directory (with_length size body) ≡ is_directory body
sized_kind None body = refl
sized_kind (Some size) (Regular bytes mapped) = refl
sized_kind (Some size) (Directory named span parent) = refl
sized_kind (Some size) (Link target) = refl

-- ---- a directory with a name for it

pub entered_alike : (moment : Moment) (name : List ℕ) (dirent : DirentValue) (a b : Body)
    → is_directory a ≡ is_directory b → entered moment name dirent a ≡ entered moment name dirent b
entered_alike moment name dirent a b same =
    ap (λ (dir : Bool). λ (d : Node). record d {
      nlink = d.nlink + cond dir 1 0;
      mtime = moment;
      ctime = moment;
      body = with_dirent name dirent d.body;
    }) same

-- ---- tests look at a file's kind alone

pub refusal_by_kind : (ctx : Ctx) (wanted : NewAttributes) (inode_attributes : InodeAttributes) (body : Body)
    → kind_of body ≡ inode_attributes.kind
    → refusal ctx wanted None (bare inode_attributes) ≡ refusal ctx wanted None (node_of inode_attributes body)
refusal_by_kind ctx wanted inode_attributes body is =
    ap (λ b. first_of_tests ((fails_guard None (bare inode_attributes), status.NotSync)
    ∷ (is_no_time wanted.atime || is_no_time wanted.mtime || is_some wanted.size && not b, status.Inval)
    ∷ (is_not_permitted ctx.credential wanted (bare inode_attributes), status.Perm)
    ∷ (is_no_access ctx.credential wanted (bare inode_attributes), status.Acces)
    ∷ (given wanted.size (λ size. nat_lt LARGEST_FILE size), status.FBig)
    ∷ [])) (sym (regular_agrees inode_attributes body is))
