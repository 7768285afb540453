-- The file of an inode that has the attributes of a head.
use Rattle.std.proofs.Common.{◌≡◌, ℕ, ◌%◌, ◌<◌, ◌≤◌, ◌^◌, sym, ap, ◌∙◌, refl, subst, Bool, true, ◌&&◌}
use Rattle.std.proofs.Common.{cond}
use Rattle.std.proofs.Common.{nat_eq, nat_le, nat_lt, [], not, min, ◌/◌, Option, Some, None, Result, Ok}
use Rattle.std.proofs.Common.{Err}
use Rattle.std.proofs.Common.{is_none, IfSome, arith}
use Rattle.std.specs.FinMap as map
use Rattle.std.specs.FinSet as set
use Rattle.std.proofs.lemmas.Bool.{eq-eqb, le-leb, lt-ltb}
use Rattle.base.specs.declared.TheConstants.{BLOCK_BYTES, DIRECT_INDEXES, LARGEST_DIRECTORY, LARGEST_FILE}
use Rattle.base.specs.declared.TheConstants.{MODE_BITS, MOST_LINKS, NANOSECONDS, TARGET_BYTES}
use Rattle.disk.specs.Crash.{Image}
use Rattle.nfs_types.specs.declared.attributes.FileKind.{FileKind}
use Rattle.nfs_types.specs.declared.attributes.FileKind.TheVariants as file_kinds
use Rattle.nfs_types.specs.declared.verifier.Verifier.{Verifier}
use Rattle.nfs_types.specs.Fits.{VerifierFits}
use Rattle.nfs_spec.specs.Model.Node.{Body, Node}
use Rattle.nfs_spec.specs.Model.Node as model
use Rattle.nfs_spec.specs.Model.Sound.{SoundVerifier}
use Rattle.nfs_spec.specs.Model.Tree.{Tree, node_at, with_node}
use Rattle.nfs_spec.specs.Model.Tree as trees
use Rattle.nfs_spec.specs.Procedures.Rename.{with_parent}
use Rattle.procs_files.specs.declared.inode_attributes.InodeAttributes.{InodeAttributes}
use Rattle.procs_files.specs.Writable.{SoundInodeAttributes}
use Rattle.procs_files.specs.Heads.{IsBodyOf, is_kind_directory, is_kind_regular, node_of}
use Rattle.layout.specs.declared.fault.LayoutFault.{LayoutFault}
use Rattle.layout.specs.declared.fault.LayoutFault.TheVariants.{Range}
use Rattle.layout.specs.declared.geometry.Geometry.{Geometry}
use Rattle.layout.specs.declared.inode.Inode.{Inode}
use Rattle.layout.specs.declared.inode.InodeKind.{InodeKind}
use Rattle.layout.specs.declared.inode.InodeKind.TheVariants as kinds
use Rattle.layout.specs.Decode.{body_of, bytes_of, file_of, inode_at, named_in, node_with, numbers_of}
use Rattle.layout.specs.Decode.{slot_bytes}
use Rattle.layout.specs.Holds.{Holds}
use Rattle.layout.specs.InodeForm.{SoundInode, is_sound_directory, is_sound_file, is_sound_inode}
use Rattle.layout.specs.InodeForm.{is_sound_kind, is_sound_link, is_sound_map, is_sound_regular}
use Rattle.layout.specs.InodeForm.{names_first}
use Rattle.layout.specs.Parts.{content_in}
use Rattle.inode.proofs.AllTests.{all_five, all_three, all_two}
use Rattle.inode.proofs.InodeThere.{is_read}
use Rattle.inode.specs.Shown.{body_in}
use Rattle.inode.specs.WriteSets.Attributes.{attributed}
use Rattle.inode.proofs.WriteSetsLemmas.OneFile.{below_last}
use Rattle.procs_blocks.specs.Heads.{looks_of}

-- ---- the inode of a file

pub record Found (g : Geometry) (image : Image) (n : ℕ) (node : Node) : Type 0 where
  pub inode : Inode
  pub there : inode_at g image n ≡ Ok (Some inode)
  pub body : node.body ≡ body_in g image inode

found_in : (g : Geometry) (image : Image) (n : ℕ) (node : Node) (read : Result (Option Inode) LayoutFault)
    → inode_at g image n ≡ read → file_of g.inodes (content_in g image) read ≡ Some node → Found g image n node
found_in g image n node (Ok (Some inode)) is file = record {
  inode = inode;
  there = is;
  body = let same : node_with inode (body_in g image inode) ≡ node = cc in
      sym (ap (λ (one : Node). one.body) same);
}
found_in g image n node (Ok None) is file = let clash : None ≡ Some node = file in cc
found_in g image n node (Err fault) is file = let clash : None ≡ Some node = file in cc

pub found : (g : Geometry) (image : Image) (tree : Tree) (n : ℕ) (node : Node) → Holds g image tree
    → node_at tree n ≡ Some node → Found g image n node
found g image tree n node holds was =
    found_in g image n node (inode_at g image n) refl
    (ap (λ b. file_of g.inodes (content_in g image) (cond b (inode_at g image n) (Err Range)))
    (sym (lt-ltb n g.inodes (below_last g image tree n node holds was)))
    ∙ sym (holds.parts.has.files n) ∙ was)

-- ---- it is sound

module _ (g : Geometry) (image : Image) (inodes : ℕ) (inode : Inode) (inode_attributes : InodeAttributes)
    (sound : SoundInodeAttributes inodes inode_attributes)
    (same : inodes ≡ g.inodes) where
  abbrev new : Inode
  new = attributed inode (looks_of inode_attributes)

  pub file_good : is_sound_file new ≡ true
  file_good = λ i. le-leb inode_attributes.mode MODE_BITS sound.mode i
      && le-leb 1 inode_attributes.nlink (let some = sound.linked in omega (arith, some)) i
      && le-leb inode_attributes.nlink MOST_LINKS sound.nlink i
      && lt-ltb inode_attributes.atime.nanoseconds NANOSECONDS sound.atime.nanoseconds i
      && lt-ltb inode_attributes.mtime.nanoseconds NANOSECONDS sound.mtime.nanoseconds i
      && lt-ltb inode_attributes.ctime.nanoseconds NANOSECONDS sound.ctime.nanoseconds i

  all_eight : (a b c d e f h k : Bool) → (a && b && c && d && e && f && h && k) ≡ true
      → (b ≡ true) × (c ≡ true) × (f ≡ true) × (h ≡ true) × (k ≡ true)
  all_eight true true true true true true true true e = (refl, refl, refl, refl, refl)
  all_eight _ _ _ _ _ _ _ _ e = cc

  pub made_of : (kind : FileKind) → kind ≡ inode_attributes.kind
      → SoundVerifier (cond (is_kind_directory kind) (model.Directory map.empty 0 inode_attributes.parent)
      (cond (is_kind_regular kind) (model.Regular [] set.empty) (model.Link []))) inode_attributes.verifier
  made_of kind is =
      subst (λ k. SoundVerifier (cond (is_kind_directory k) (model.Directory map.empty 0 inode_attributes.parent)
      (cond (is_kind_regular k) (model.Regular [] set.empty) (model.Link []))) inode_attributes.verifier) (sym is)
      sound.verifier

  pub in_range : inode_attributes.kind ≡ file_kinds.Directory → (2 ≤ inode_attributes.nlink) × (0 < inode_attributes.parent) × (inode_attributes.parent < inodes)
  in_range is = sound.directory (ap is_kind_directory is)

  good : (kind : InodeKind) → is_sound_kind g kind inode ≡ true
      → IsBodyOf inode_attributes (with_parent inode_attributes.parent (body_of g.inodes (content_in g image) kind inode))
      → is_sound_kind g kind new ≡ true
  good kinds.Regular old fits =
      let three = all_three (is_sound_file inode) (is_sound_map g inode) (is_sound_regular inode) old in
      let size = all_two (nat_le inode.size LARGEST_FILE) (nat_eq inode.parent 0) three.2 in
      λ i. file_good i && three.1 i && (size.0 i && eq-eqb inode_attributes.parent 0 (sym fits.parent) i)
  good kinds.Directory old fits =
      let three = all_three (is_sound_file inode) (is_sound_map g inode) (is_sound_directory g inode) old in
      let rest = all_eight (nat_le 2 inode.nlink) (nat_le inode.size LARGEST_DIRECTORY)
      (nat_eq (inode.size % BLOCK_BYTES) 0) (nat_lt 0 inode.parent) (nat_lt inode.parent g.inodes)
      (names_first (min (inode.size / BLOCK_BYTES) DIRECT_INDEXES) inode.direct)
      (cond (nat_lt DIRECT_INDEXES (inode.size / BLOCK_BYTES)) (not (nat_eq inode.indirect 0))
      (nat_eq inode.indirect 0)) (nat_eq inode.double 0) (all_two _ (is_none inode.verifier) three.2).0 in
      let range = in_range (sym fits.kind) in
      let most : inode_attributes.parent < g.inodes = let less = range.2 in omega (arith, less, same) in
      λ i. file_good i && three.1 i && (le-leb 2 inode_attributes.nlink range.0 i && rest.0 i && rest.1 i
      && lt-ltb 0 inode_attributes.parent range.1 i && lt-ltb inode_attributes.parent g.inodes most i && rest.2 i && rest.3 i && rest.4 i
      && is_none (made_of file_kinds.Directory fits.kind i))
  good kinds.Link old fits =
      let three = all_three (is_sound_file inode) (is_sound_map g inode) (is_sound_link inode) old in
      let both = all_two (nat_le 1 inode.size && nat_le inode.size TARGET_BYTES && nat_eq inode.parent 0
      && names_first 1 inode.direct && nat_eq inode.indirect 0 && nat_eq inode.double 0) (is_none inode.verifier)
      three.2 in
      let no_pointers = all_two (nat_le 1 inode.size && nat_le inode.size TARGET_BYTES && nat_eq inode.parent 0
      && names_first 1 inode.direct && nat_eq inode.indirect 0) (nat_eq inode.double 0) both.0 in
      let rest = all_five (nat_le 1 inode.size) (nat_le inode.size TARGET_BYTES) (nat_eq inode.parent 0)
      (names_first 1 inode.direct) (nat_eq inode.indirect 0) no_pointers.0 in
      λ i. file_good i && three.1 i && (rest.0 i && rest.1 i && eq-eqb inode_attributes.parent 0 (sym fits.parent) i
      && rest.3 i && rest.4 i && no_pointers.1 i && is_none (made_of file_kinds.Link fits.kind i))

  pub no_verifier : (verifier : Option Verifier) → verifier ≡ None → IfSome verifier VerifierFits
  no_verifier verifier is = subst (λ (v : Option Verifier). IfSome v VerifierFits) (sym is) tt

  verifier_fits : (kind : InodeKind)
      → IsBodyOf inode_attributes (with_parent inode_attributes.parent (body_of g.inodes (content_in g image) kind inode))
      → IfSome inode_attributes.verifier VerifierFits
  verifier_fits kinds.Regular fits = made_of file_kinds.Regular fits.kind
  verifier_fits kinds.Directory fits = no_verifier inode_attributes.verifier (made_of file_kinds.Directory fits.kind)
  verifier_fits kinds.Link fits = no_verifier inode_attributes.verifier (made_of file_kinds.Link fits.kind)

  parent_small : (kind : InodeKind)
      → IsBodyOf inode_attributes (with_parent inode_attributes.parent (body_of g.inodes (content_in g image) kind inode))
      → inode_attributes.parent < 2 ^ 32
  parent_small kinds.Regular fits = let none = fits.parent in omega (arith, none)
  parent_small kinds.Directory fits =
      let range = (in_range (sym fits.kind)).2 in let few = g.lawful.1.1 in omega (arith, range, few, same)
  parent_small kinds.Link fits = let none = fits.parent in omega (arith, none)

  pub new_sound : SoundInode g inode
      → IsBodyOf inode_attributes (with_parent inode_attributes.parent (body_in g image inode)) → SoundInode g new
  unfolding is_sound_inode
  new_sound old fits = record {
    fits = record {
      mode = let most = sound.mode in omega (arith, most);
      uid = sound.uid;
      gid = sound.gid;
      nlink = let most = sound.nlink in omega (arith, most);
      size = old.fits.size;
      atime = (sound.atime.seconds, let few = sound.atime.nanoseconds in omega (arith, few));
      mtime = (sound.mtime.seconds, let few = sound.mtime.nanoseconds in omega (arith, few));
      ctime = (sound.ctime.seconds, let few = sound.ctime.nanoseconds in omega (arith, few));
      boot = sound.stamp.boot;
      transaction = sound.stamp.transaction;
      parent = parent_small inode.kind fits;
      verifier = verifier_fits inode.kind fits;
      count = old.fits.count;
      direct = old.fits.direct;
      indirect = old.fits.indirect;
      double = old.fits.double;
    };
    good = good inode.kind old.good fits;
  }

-- what is in it is what was there, of this parent
pub same_in : (inodes : ℕ) (content : Image) (inode looks : Inode) (kind : InodeKind)
    → body_of inodes content kind (attributed inode looks)
    ≡ with_parent looks.parent (body_of inodes content kind inode)
unfolding numbers_of bytes_of slot_bytes named_in
same_in inodes content inode looks kinds.Regular = refl
same_in inodes content inode looks kinds.Directory = refl
same_in inodes content inode looks kinds.Link = refl

pub set_node : (g : Geometry) (image : Image) (inode : Inode) (inode_attributes : InodeAttributes) (node : Node)
    → node.body ≡ body_in g image inode
    → node_with (attributed inode (looks_of inode_attributes)) (body_in g image (attributed inode (looks_of inode_attributes)))
    ≡ node_of inode_attributes (with_parent inode_attributes.parent node.body)
set_node g image inode inode_attributes node is =
    ap (node_of inode_attributes) (same_in g.inodes (content_in g image) inode (looks_of inode_attributes) inode.kind
    ∙ ap (with_parent inode_attributes.parent) (sym is))

-- the attributes that are written are sound
pub set_sound : (g : Geometry) (image : Image) (tree : Tree) (inode_attributes : InodeAttributes) (node : Node)
    (holds : Holds g image tree) (was : node_at tree inode_attributes.number ≡ Some node)
    → IsBodyOf inode_attributes (with_parent inode_attributes.parent node.body) → SoundInodeAttributes tree.geometry.inodes inode_attributes
    → SoundInode g (attributed (found g image tree inode_attributes.number node holds was).inode (looks_of inode_attributes))
set_sound g image tree inode_attributes node holds was fits sound =
    let one = found g image tree inode_attributes.number node holds was in
    new_sound g image tree.geometry.inodes one.inode inode_attributes sound
    (ap (λ (k : trees.Geometry). k.inodes) holds.parts.geometry)
    (is_read g image tree inode_attributes.number one.inode holds (below_last g image tree inode_attributes.number node holds was)
    one.there)
    (subst (λ (b : Body). IsBodyOf inode_attributes (with_parent inode_attributes.parent b)) one.body fits)
