-- What a head that is given to an operation makes of the file, and that it may be given.
use Rattle.std.proofs.Common.{◌≡◌, ◌≢◌, ℕ, suc, ◌+◌, ◌-◌, ◌^◌, ◌<◌, ◌≤◌, arith, sym, ap, subst, ◌∙◌, refl, true, false, cond}
use Rattle.std.proofs.Common.{◌||◌, nat_le, List, Option, Some, None}
use Rattle.std.specs.Option.{option_map}
use Rattle.base.specs.declared.TheConstants.{MOST_LINKS}
use Rattle.nfs_types.specs.declared.ctx.Moment.{Moment}
use Rattle.nfs_types.specs.declared.verifier.Verifier.{Verifier}
use Rattle.nfs_spec.specs.Model.Attributes.{kind_of}
use Rattle.nfs_spec.specs.Model.Names.{is_directory, parent_of}
use Rattle.nfs_spec.specs.Model.Node.{Node, Body, DirentValue, Regular, Directory, Link}
use Rattle.nfs_spec.specs.Model.Sound.{SoundVerifier}
use Rattle.nfs_spec.specs.Model.Tree.{Tree, free, node_at, with_node}
use Rattle.nfs_spec.proofs.ProceduresLemmas.Lacking.{put_change}
use Rattle.nfs_spec.proofs.ProceduresLemmas.Soundness.{changed_is}
use Rattle.nfs_spec.specs.Procedures.Link.{linked}
use Rattle.nfs_spec.specs.Procedures.Changes.{changed_at, departed, entered, is_last_name, parent_links, unnamed, with_file}
use Rattle.nfs_spec.specs.Procedures.Changes.{with_dirent, without_dirent, without_node}
use Rattle.nfs_spec.specs.Procedures.Rename.{with_parent}
use Rattle.procs_files.proofs.KindsAgree.{kinds_agree}
use Rattle.procs_files.specs.Writable.{CanEnter, SoundInodeAttributes, adds}
use Rattle.procs_files.specs.Heads.{IsBodyOf, IsFileAt, IsFileIn, is_kind_directory, node_of, shell}
use Rattle.procs_files.specs.declared.inode_attributes.InodeAttributes.{InodeAttributes}
use Rattle.procs_names.specs.Links.Shapes.{CanChange, CanEnterAt, CanLose, IsShaped, less_linked}

-- ---- heads

kind_directory : (body : Body) → is_directory body ≡ is_kind_directory (kind_of body)
kind_directory (Regular bytes mapped) = refl
kind_directory (Directory named span parent) = refl
kind_directory (Link target) = refl

verifier_by : (inode_attributes : InodeAttributes) (body : Body) (verifier : Option Verifier) → SoundVerifier body verifier
    → SoundVerifier (shell (record inode_attributes { kind = kind_of body })) verifier
verifier_by inode_attributes (Regular bytes mapped) verifier good = good
verifier_by inode_attributes (Directory named span parent) verifier good = good
verifier_by inode_attributes (Link target) verifier good = good

pub shaped_inode_attributes : (inodes : ℕ) (inode_attributes : InodeAttributes) (body : Body) → kind_of body ≡ inode_attributes.kind
    → parent_of body ≡ inode_attributes.parent → IsShaped inodes (node_of inode_attributes body) → SoundInodeAttributes inodes inode_attributes
shaped_inode_attributes inodes inode_attributes body kind parent shaped = record {
  mode = shaped.mode;
  uid = shaped.uid;
  gid = shaped.gid;
  linked = shaped.linked;
  nlink = shaped.nlink;
  atime = shaped.atime;
  mtime = shaped.mtime;
  ctime = shaped.ctime;
  stamp = shaped.stamp;
  verifier = subst (λ k. SoundVerifier (shell (record inode_attributes { kind = k })) inode_attributes.verifier) kind
      (verifier_by inode_attributes body inode_attributes.verifier shaped.verifier);
  directory = λ dir.
      let known = shaped.directory (kind_directory body ∙ ap is_kind_directory kind ∙ dir) in (
        known.0,
        subst (λ p. 0 < p) parent known.1,
        subst (λ p. p < inodes) parent known.2,
      );
}

pub own_parent : (parent : ℕ) (body : Body) → parent_of body ≡ parent → with_parent parent body ≡ body
own_parent parent (Regular bytes mapped) is = refl
own_parent parent (Directory named span old) is = ap (Directory named span) (sym is)
own_parent parent (Link target) is = refl

pub links_agree : (file : InodeAttributes) (body : Body) → IsBodyOf file body
    → parent_links (shell file) ≡ parent_links body
links_agree file body fits = ap (λ b. cond b 1 0) (sym (kinds_agree file body fits.kind))

fits_departed : (inode_attributes : InodeAttributes) (name : List ℕ) (body : Body) → IsBodyOf inode_attributes body
    → IsBodyOf inode_attributes (without_dirent name body)
fits_departed inode_attributes name (Regular bytes mapped) fits = fits
fits_departed inode_attributes name (Directory named span parent) fits = record {
  kind = fits.kind;
  size = fits.size;
  used = fits.used;
  parent = fits.parent;
}
fits_departed inode_attributes name (Link target) fits = fits

-- ---- a name goes

module _ (tree : Tree) (number : ℕ) (moment : Moment) (name : List ℕ) (file : InodeAttributes) (body : Body)
    (fits : IsBodyOf file body) (stands : Tree → Type 0) where
  pub departed_none : IsFileAt tree number None → stands tree
      → stands (changed_at tree number (departed moment name body))
  departed_none none is = subst stands (ap (λ o. with_file tree number (option_map (departed moment name body) o))
      (sym none)) is

  pub departed_some : (old : InodeAttributes) (nlink links : ℕ) → IsFileAt tree number (Some old)
      → nlink ≡ old.nlink - links → links ≡ parent_links (shell file)
      → CanChange tree number (departed moment name body)
      → (let inode_attributes : InodeAttributes = record old { nlink = nlink; mtime = moment; ctime = moment } in
      (node : Node) → node_at tree old.number ≡ Some node → IsBodyOf inode_attributes node.body
      → SoundInodeAttributes tree.geometry.inodes inode_attributes
      → stands (with_node tree old.number (node_of inode_attributes (without_dirent name node.body))))
      → stands (changed_at tree number (departed moment name body))
  departed_some old nlink links at nlink_is links_are can then =
      let inside = at.1.0 in
      let node = node_of old inside in
      let there = at.1.1.there in
      let was = at.1.1.fits in
      let inode_attributes : InodeAttributes = record old { nlink = nlink; mtime = moment; ctime = moment } in
      let is : IsBodyOf inode_attributes inside = record {
        kind = was.kind;
        size = was.size;
        used = was.used;
        parent = was.parent;
      } in
      let links_is : nlink ≡ old.nlink - parent_links body =
      nlink_is ∙ ap (λ n. old.nlink - n) (links_are ∙ links_agree file body fits) in
      let new : node_of inode_attributes (without_dirent name inside) ≡ departed moment name body node =
      λ i. node_of (record inode_attributes { nlink = links_is i }) (without_dirent name inside) in
      let shaped = can node (ap (node_at tree) (sym at.0) ∙ there) in
      let left = fits_departed inode_attributes name inside is in
      let sound = shaped_inode_attributes tree.geometry.inodes inode_attributes (without_dirent name inside) left.kind left.parent
      (subst (IsShaped tree.geometry.inodes) (sym new) shaped) in
      subst stands (
      ap (with_node tree old.number) new ∙ sym (changed_is tree old.number (departed moment name body) node there)
      ∙ ap (λ n. changed_at tree n (departed moment name body)) at.0
      ) (then node there is sound)

-- ---- a name comes

same_kind_entered : (name : List ℕ) (dirent : DirentValue) (body : Body)
    → kind_of (with_dirent name dirent body) ≡ kind_of body
same_kind_entered name dirent (Regular bytes mapped) = refl
same_kind_entered name dirent (Directory named span parent) = refl
same_kind_entered name dirent (Link target) = refl

same_parent_entered : (name : List ℕ) (dirent : DirentValue) (body : Body)
    → parent_of (with_dirent name dirent body) ≡ parent_of body
same_parent_entered name dirent (Regular bytes mapped) = refl
same_parent_entered name dirent (Directory named span parent) = refl
same_parent_entered name dirent (Link target) = refl

module _ (tree : Tree) (number : ℕ) (moment : Moment) (name : List ℕ) (dirent : DirentValue) (file : InodeAttributes)
    (body : Body) (fits : IsBodyOf file body) (stands : Tree → Type 0) where
  pub entered_none : IsFileAt tree number None → stands tree
      → stands (changed_at tree number (entered moment name dirent body))
  entered_none none is = subst stands (ap (λ o. with_file tree number (option_map
      (entered moment name dirent body) o)) (sym none)) is

  pub entered_some : (old : InodeAttributes) (nlink links : ℕ) → IsFileAt tree number (Some old)
      → (old.nlink + links < 2 ^ 32 → nlink ≡ old.nlink + links) → links ≡ parent_links (shell file)
      → CanEnterAt tree moment number name dirent body
      → (let inode_attributes : InodeAttributes = record old { nlink = nlink; mtime = moment; ctime = moment } in
      (node : Node) → node_at tree old.number ≡ Some node → IsBodyOf inode_attributes node.body
      → SoundInodeAttributes tree.geometry.inodes inode_attributes → CanEnter tree node.body name dirent
      → adds (with_dirent name dirent node.body) node.body ≤ free tree
      → stands (with_node tree old.number (node_of inode_attributes (with_dirent name dirent node.body))))
      → stands (changed_at tree number (entered moment name dirent body))
  entered_some old nlink links at nlink_is links_are can then =
      let inside = at.1.0 in
      let node = node_of old inside in
      let there = at.1.1.there in
      let was = at.1.1.fits in
      let inode_attributes : InodeAttributes = record old { nlink = nlink; mtime = moment; ctime = moment } in
      let is : IsBodyOf inode_attributes inside = record {
        kind = was.kind;
        size = was.size;
        used = was.used;
        parent = was.parent;
      } in
      let here : node_at tree number ≡ Some node = ap (node_at tree) (sym at.0) ∙ there in
      let shaped = can.shaped node here in
      let links_same : links ≡ parent_links body = links_are ∙ links_agree file body fits in
      let few = shaped.nlink in
      let small : old.nlink + links < 2 ^ 32 = omega (arith, few, links_same) in
      let links_is : nlink ≡ old.nlink + parent_links body =
      nlink_is small ∙ ap (λ n. old.nlink + n) links_same in
      let new : node_of inode_attributes (with_dirent name dirent inside) ≡ entered moment name dirent body node =
      λ i. node_of (record inode_attributes { nlink = links_is i }) (with_dirent name dirent inside) in
      let sound = shaped_inode_attributes tree.geometry.inodes inode_attributes (with_dirent name dirent inside)
      (same_kind_entered name dirent inside ∙ was.kind) (same_parent_entered name dirent inside ∙ was.parent)
      (subst (IsShaped tree.geometry.inodes) (sym new) shaped) in
      subst stands (
      ap (with_node tree old.number) new
      ∙ sym (changed_is tree old.number (entered moment name dirent body) node there)
      ∙ ap (λ n. changed_at tree n (entered moment name dirent body)) at.0
      ) (then node there is sound (can.enters node here) (can.has_space node here))

-- ---- links of a file

-- a file whose links and time of change are set
pub relinked : (tree : Tree) (file : InodeAttributes) (body : Body) (nlink : ℕ) (moment : Moment) (stands : Tree → Type 0)
    → IsFileIn tree file body
    → IsShaped tree.geometry.inodes (record (node_of file body) { nlink = nlink; ctime = moment })
    → (let inode_attributes : InodeAttributes = record file { nlink = nlink; ctime = moment } in
    (node : Node) → node_at tree file.number ≡ Some node → IsBodyOf inode_attributes (with_parent file.parent node.body)
    → SoundInodeAttributes tree.geometry.inodes inode_attributes
    → stands (with_node tree file.number (node_of inode_attributes (with_parent file.parent node.body))))
    → stands (with_node tree file.number (record (node_of file body) { nlink = nlink; ctime = moment }))
relinked tree file body nlink moment stands at shaped then =
    let inode_attributes : InodeAttributes = record file { nlink = nlink; ctime = moment } in
    let own = own_parent file.parent body at.fits.parent in
    let is : IsBodyOf inode_attributes body = record {
      kind = at.fits.kind;
      size = at.fits.size;
      used = at.fits.used;
      parent = at.fits.parent;
    } in
    subst (λ b. stands (with_node tree file.number (node_of inode_attributes b))) own
    (then (node_of file body) at.there (subst (IsBodyOf inode_attributes) (sym own) is)
    (shaped_inode_attributes tree.geometry.inodes inode_attributes body is.kind is.parent shaped))

pub lost_link : (tree : Tree) (file : InodeAttributes) (body : Body) (nlink : ℕ) (moment : Moment) (stands : Tree → Type 0)
    → nlink ≡ file.nlink - 1 → IsFileIn tree file body
    → IsShaped tree.geometry.inodes (less_linked moment (node_of file body))
    → (let inode_attributes : InodeAttributes = record file { nlink = nlink; ctime = moment } in
    (node : Node) → node_at tree file.number ≡ Some node → IsBodyOf inode_attributes (with_parent file.parent node.body)
    → SoundInodeAttributes tree.geometry.inodes inode_attributes
    → stands (with_node tree file.number (node_of inode_attributes (with_parent file.parent node.body))))
    → stands (with_node tree file.number (less_linked moment (node_of file body)))
lost_link tree file body nlink moment stands is at shaped then =
    let new : record (node_of file body) { nlink = nlink; ctime = moment }
    ≡ less_linked moment (node_of file body) =
    λ i. record (node_of file body) { nlink = is i; ctime = moment } in
    subst (λ n. stands (with_node tree file.number n)) new
    (relinked tree file body nlink moment stands at
    (subst (IsShaped tree.geometry.inodes) (sym new) shaped) then)

-- a file that has one link more
pub gained_link : (tree : Tree) (number : ℕ) (moment : Moment) (stands : Tree → Type 0) (old : InodeAttributes) (nlink : ℕ)
    → IsFileAt tree number (Some old) → (old.nlink + 1 < 2 ^ 32 → nlink ≡ old.nlink + 1)
    → CanChange tree number (linked moment)
    → (let inode_attributes : InodeAttributes = record old { nlink = nlink; ctime = moment } in
    (node : Node) → node_at tree old.number ≡ Some node → IsBodyOf inode_attributes (with_parent old.parent node.body)
    → SoundInodeAttributes tree.geometry.inodes inode_attributes
    → stands (with_node tree old.number (node_of inode_attributes (with_parent old.parent node.body))))
    → stands (changed_at tree number (linked moment))
gained_link tree number moment stands old nlink at nlink_is can then =
    let body = at.1.0 in
    let node = node_of old body in
    let there = at.1.1.there in
    let shaped = can node (ap (node_at tree) (sym at.0) ∙ there) in
    let few : suc old.nlink ≤ MOST_LINKS = shaped.nlink in
    let small : old.nlink + 1 < 2 ^ 32 = omega (arith, few) in
    let is = nlink_is small in
    let links : nlink ≡ suc old.nlink = omega (arith, is) in
    let new : record node { nlink = nlink; ctime = moment } ≡ linked moment node =
    λ i. record node { nlink = links i; ctime = moment } in
    subst stands (
    ap (with_node tree old.number) new ∙ sym (changed_is tree old.number (linked moment) node there)
    ∙ ap (λ n. changed_at tree n (linked moment)) at.0
    )
    (relinked tree old body nlink moment stands at.1.1
    (subst (IsShaped tree.geometry.inodes) (sym new) shaped) then)

pub last_by : (file : InodeAttributes) (body : Body) → IsBodyOf file body
    → is_last_name (node_of file body) ≡ (is_directory (shell file) || nat_le file.nlink 1)
last_by file body fits = ap (λ b. b || nat_le file.nlink 1) (kinds_agree file body fits.kind)

pub unnamed_gone : (tree : Tree) (moment : Moment) (number : ℕ) (node : Node) → is_last_name node ≡ true
    → without_node tree number ≡ unnamed tree moment number node
unnamed_gone tree moment number node last =
    sym (ap (λ b. cond b (without_node tree number) (with_node tree number (less_linked moment node))) last)

pub unnamed_preserved : (tree : Tree) (moment : Moment) (number : ℕ) (node : Node) → is_last_name node ≡ false
    → with_node tree number (less_linked moment node) ≡ unnamed tree moment number node
unnamed_preserved tree moment number node more =
    sym (ap (λ b. cond b (without_node tree number) (with_node tree number (less_linked moment node))) more)

-- ---- another file changes

pub same_inodes : (tree : Tree) (number : ℕ) (change : Node → Node)
    → (changed_at tree number change).geometry ≡ tree.geometry
same_inodes tree number change = by (node_at tree number)
  where
    by : (o : Option Node) → (with_file tree number (option_map change o)).geometry ≡ tree.geometry
    by None = refl
    by (Some node) = refl

pub elsewhere : (tree : Tree) (at number : ℕ) (change : Node → Node) → number ≢ at
    → node_at (changed_at tree at change) number ≡ node_at tree number
elsewhere tree at number change apart = by (node_at tree at) refl
  where
    by : (o : Option Node) → node_at tree at ≡ o
        → node_at (with_file tree at (option_map change o)) number ≡ node_at tree number
    by None is = refl
    by (Some node) is = (put_change tree at (Some node) (change node) is).there number apart

pub still_in : (tree : Tree) (at : ℕ) (change : Node → Node) (file : InodeAttributes) (body : Body) → file.number ≢ at
    → IsFileIn tree file body → IsFileIn (changed_at tree at change) file body
still_in tree at change file body apart is = record {
  there = elsewhere tree at file.number change apart ∙ is.there;
  fits = is.fits;
}

pub still_loses : (tree : Tree) (at : ℕ) (change : Node → Node) (moment : Moment) (node : Node)
    → CanLose tree moment node → CanLose (changed_at tree at change) moment node
still_loses tree at change moment node can more =
    subst (λ g. IsShaped g.inodes (less_linked moment node)) (sym (same_inodes tree at change)) (can more)
