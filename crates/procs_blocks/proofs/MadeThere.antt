-- The inode of a file that has the attributes of a head, and no blocks.
use Rattle.std.proofs.Common.{◌≡◌, ℕ, zero, suc, ◌+◌, ◌<◌, ◌≤◌, ◌^◌, sym, ap, ◌∙◌, refl, subst, Bool, true, false}
use Rattle.std.proofs.Common.{◌&&◌, ◌||◌, cond, not, List, [], ◌∷◌, length, get_or, nat_eq, filter, replicate}
use Rattle.std.proofs.Common.{None, is_none, IfSome, arith}
use Rattle.std.specs.FinSet as set
use Rattle.std.specs.FinMap as map
use Rattle.std.specs.List.{AllByRecursion, list_all, range_with_len}
use Rattle.std.specs.Ordering.{nat_cmp}
use Rattle.std.proofs.lemmas.Bool.{eq-eqb, le-leb, lt-ltb}
use Rattle.base.specs.declared.TheConstants.{TARGET_BYTES, DIRECT_INDEXES}
use Rattle.disk.specs.Crash.{Image}
use Rattle.nfs_types.specs.declared.attributes.FileKind.TheVariants as file_kinds
use Rattle.nfs_types.specs.Fits.{VerifierFits}
use Rattle.nfs_spec.specs.Model.Names.{parent_of}
use Rattle.nfs_spec.specs.Model.Cost.{cost}
use Rattle.nfs_spec.specs.Model.Node as model
use Rattle.nfs_spec.specs.Model.Sound.{SoundBody, SoundTarget}
use Rattle.procs_files.specs.declared.inode_attributes.InodeAttributes.{InodeAttributes}
use Rattle.procs_files.specs.Writable.{SoundInodeAttributes, first_body}
use Rattle.procs_files.specs.Heads.{IsBodyOf, is_kind_directory, is_kind_regular, node_of}
use Rattle.layout.specs.declared.geometry.Geometry.{Geometry}
use Rattle.layout.specs.declared.inode.Inode.{Inode}
use Rattle.layout.specs.declared.inode.InodeKind.{InodeKind}
use Rattle.layout.specs.declared.inode.InodeKind.TheVariants as kinds
use Rattle.layout.specs.Decode.{body_of, mapped_of, named_in, node_with, numbers_of}
use Rattle.layout.specs.Geometry.{data_at}
use Rattle.layout.specs.Places.{is_data}
use Rattle.layout.proofs.FileNumbers.{direct_pass}
use Rattle.layout.proofs.OnGrid.{data_within}
use Rattle.layout.proofs.Written.{not_same}
use Rattle.bitmap.specs.Inodes.Linked.{linked}
use Rattle.layout.specs.InodeForm.{is_data_block_or_none, names_first, SoundInode, is_sound_inode, is_sound_kind}
use Rattle.layout.specs.Parts.{content_in}
use Rattle.inode.proofs.AllTests.{all_two}
use Rattle.inode.specs.Shown.{body_in}
use Rattle.bitmap.specs.Inodes.Emptied.{emptied}
use Rattle.procs_blocks.specs.Heads.{inode_of}
use Rattle.procs_blocks.proofs.SetThere.{file_good, in_range, made_of, no_verifier}

-- ---- it is sound

zeros_below : (n : ℕ) → AllByRecursion (λ number. number < 2 ^ 32) (replicate n 0)
zeros_below zero = tt
zeros_below (suc n) = (omega arith, zeros_below n)

module _ (g : Geometry) (image : Image) (inodes : ℕ) (inode_attributes : InodeAttributes) (sound : SoundInodeAttributes inodes inode_attributes)
    (same : inodes ≡ g.inodes) where
  abbrev made : InodeKind → Inode
  made kind = emptied (inode_of inode_attributes kind)

  fits : (kind : InodeKind) → IfSome inode_attributes.verifier VerifierFits → inode_attributes.parent < 2 ^ 32
      → is_sound_kind g kind (made kind) ≡ true → SoundInode g (made kind)
  unfolding is_sound_inode
  fits kind verifier parent good = record {
    fits = record {
      mode = let most = sound.mode in omega (arith, most);
      uid = sound.uid;
      gid = sound.gid;
      nlink = let most = sound.nlink in omega (arith, most);
      size = omega arith;
      atime = (sound.atime.seconds, let few = sound.atime.nanoseconds in omega (arith, few));
      mtime = (sound.mtime.seconds, let few = sound.mtime.nanoseconds in omega (arith, few));
      ctime = (sound.ctime.seconds, let few = sound.ctime.nanoseconds in omega (arith, few));
      boot = sound.stamp.boot;
      transaction = sound.stamp.transaction;
      parent = parent;
      verifier = verifier;
      count = refl;
      direct = zeros_below DIRECT_INDEXES;
      indirect = omega arith;
      double = omega arith;
    };
    good = good;
  }

  pub regular_sound : inode_attributes.kind ≡ file_kinds.Regular → inode_attributes.parent ≡ 0 → SoundInode g (made kinds.Regular)
  regular_sound is none =
      fits kinds.Regular (made_of g image inodes (made kinds.Regular) inode_attributes sound same file_kinds.Regular (sym is))
      (omega (arith, none))
      (λ i. file_good g image inodes (made kinds.Regular) inode_attributes sound same i && true
      && (true && eq-eqb inode_attributes.parent 0 none i))

  pub directory_sound : inode_attributes.kind ≡ file_kinds.Directory → SoundInode g (made kinds.Directory)
  directory_sound is =
      let range = in_range g image inodes (made kinds.Directory) inode_attributes sound same is in
      let none = made_of g image inodes (made kinds.Directory) inode_attributes sound same file_kinds.Directory (sym is) in
      let most : inode_attributes.parent < g.inodes = let less = range.2 in omega (arith, less, same) in
      fits kinds.Directory (no_verifier g image inodes (made kinds.Directory) inode_attributes sound same inode_attributes.verifier none)
      (let few = g.lawful.1.1 in omega (arith, most, few))
      (λ i. file_good g image inodes (made kinds.Directory) inode_attributes sound same i && true
      && (le-leb 2 inode_attributes.nlink range.0 i && true && true && lt-ltb 0 inode_attributes.parent range.1 i
      && lt-ltb inode_attributes.parent g.inodes most i && true && true && true && is_none (none i)))

-- ---- what is in it

none_in : (numbers : List ℕ) (k : ℕ) → list_all (λ n. nat_eq n 0) numbers ≡ true
    → not (nat_eq (get_or numbers k 0) 0) ≡ false
none_in [] k e = refl
none_in (n ∷ numbers) zero e = ap not (all_two (nat_eq n 0) (list_all (λ k. nat_eq k 0) numbers) e).0
none_in (n ∷ numbers) (suc k) e = none_in numbers k (all_two (nat_eq n 0) (list_all (λ k. nat_eq k 0) numbers) e).1

none_pass : (p : ℕ → Bool) (a n : ℕ) → ((k : ℕ) → p k ≡ false) → filter p (range_with_len a n) ≡ []
none_pass p a zero none = refl
none_pass p a (suc n) none =
    ap (λ t. cond t (a ∷ filter p (range_with_len (a + 1) n)) (filter p (range_with_len (a + 1) n))) (none a)
    ∙ none_pass p (a + 1) n none

none_mapped : (numbers : List ℕ) → list_all (λ n. nat_eq n 0) numbers ≡ true → mapped_of numbers ≡ set.empty
unfolding mapped_of
none_mapped numbers e =
    ap (set.from_list {R = nat_cmp})
    (none_pass (λ index. not (nat_eq (get_or numbers index 0) 0)) 0 (length numbers)
    (λ k. none_in numbers k e))

module _ (inodes : ℕ) (content : Image) (inode : Inode) where
  no_numbers : list_all (λ n. nat_eq n 0) (numbers_of content (emptied inode)) ≡ true
  no_numbers = direct_pass content (emptied inode) refl refl (λ n. nat_eq n 0) refl refl

  pub regular_empty : body_of inodes content kinds.Regular (emptied inode) ≡ model.Regular [] set.empty
  regular_empty = ap (model.Regular []) (none_mapped (numbers_of content (emptied inode)) no_numbers)

  pub directory_empty : body_of inodes content kinds.Directory (emptied inode)
      ≡ model.Directory map.empty 0 inode.parent
  unfolding named_in
  directory_empty = refl

-- ---- the files that are made

pub regular_node : (g : Geometry) (image : Image) (inode_attributes : InodeAttributes) (target : List ℕ) → inode_attributes.kind ≡ file_kinds.Regular
    → node_with (emptied (inode_of inode_attributes kinds.Regular))
    (body_in g image (emptied (inode_of inode_attributes kinds.Regular)))
    ≡ node_of inode_attributes (first_body inode_attributes target)
regular_node g image inode_attributes target is =
    ap (node_of inode_attributes) (regular_empty g.inodes (content_in g image) (inode_of inode_attributes kinds.Regular)
    ∙ sym (ap (λ kind. cond (is_kind_directory kind) (model.Directory map.empty 0 inode_attributes.parent)
    (cond (is_kind_regular kind) (model.Regular [] set.empty) (model.Link target))) is))

pub directory_node : (g : Geometry) (image : Image) (inode_attributes : InodeAttributes) (target : List ℕ)
    → inode_attributes.kind ≡ file_kinds.Directory
    → node_with (emptied (inode_of inode_attributes kinds.Directory))
    (body_in g image (emptied (inode_of inode_attributes kinds.Directory)))
    ≡ node_of inode_attributes (first_body inode_attributes target)
directory_node g image inode_attributes target is =
    ap (node_of inode_attributes) (directory_empty g.inodes (content_in g image) (inode_of inode_attributes kinds.Directory)
    ∙ sym (ap (λ kind. cond (is_kind_directory kind) (model.Directory map.empty 0 inode_attributes.parent)
    (cond (is_kind_regular kind) (model.Regular [] set.empty) (model.Link target))) is))

-- what is no directory has no parent, and what is no device and no socket is a file
pub no_parent : (inode_attributes : InodeAttributes) (target : List ℕ) → inode_attributes.kind ≡ file_kinds.Regular
    → IsBodyOf inode_attributes (first_body inode_attributes target) → inode_attributes.parent ≡ 0
no_parent inode_attributes target is fits =
    sym fits.parent ∙ ap (λ kind. parent_of (cond (is_kind_directory kind) (model.Directory map.empty 0 inode_attributes.parent)
    (cond (is_kind_regular kind) (model.Regular [] set.empty) (model.Link target)))) is

-- ---- links

link_body : (inode_attributes : InodeAttributes) (target : List ℕ) → inode_attributes.kind ≡ file_kinds.Link → first_body inode_attributes target ≡ model.Link target
link_body inode_attributes target is =
    ap (λ kind. cond (is_kind_directory kind) (model.Directory map.empty 0 inode_attributes.parent)
    (cond (is_kind_regular kind) (model.Regular [] set.empty) (model.Link target))) is

pub link_node : (inode_attributes : InodeAttributes) (target : List ℕ) → inode_attributes.kind ≡ file_kinds.Link
    → node_with (inode_of inode_attributes kinds.Link) (model.Link target) ≡ node_of inode_attributes (first_body inode_attributes target)
link_node inode_attributes target is = ap (node_of inode_attributes) (sym (link_body inode_attributes target is))

pub link_target : (inode_attributes : InodeAttributes) (target : List ℕ) → inode_attributes.kind ≡ file_kinds.Link → SoundBody (first_body inode_attributes target)
    → SoundTarget target
link_target inode_attributes target is whole = subst SoundBody (link_body inode_attributes target is) whole

pub link_space : (inode_attributes : InodeAttributes) (target : List ℕ) (left : ℕ) → inode_attributes.kind ≡ file_kinds.Link
    → cost (first_body inode_attributes target) ≤ left → 1 ≤ left
link_space inode_attributes target left is has_space = subst (λ b. cost b ≤ left) (link_body inode_attributes target is) has_space

module _ (g : Geometry) (image : Image) (inodes : ℕ) (inode_attributes : InodeAttributes) (target : List ℕ) (sound : SoundInodeAttributes inodes inode_attributes)
    (same : inodes ≡ g.inodes) (is : inode_attributes.kind ≡ file_kinds.Link) (fits : IsBodyOf inode_attributes (first_body inode_attributes target))
    (good : SoundTarget target) (block : ℕ) (lies : is_data g block ≡ true) where
  abbrev link : Inode
  link = linked (inode_of inode_attributes kinds.Link) (length target) block

  no_parents : inode_attributes.parent ≡ 0
  no_parents = sym fits.parent ∙ ap parent_of (link_body inode_attributes target is)

  within : (data_at g.blocks g.inodes ≤ block) × (block < g.blocks)
  within = data_within g block lies

  some : nat_eq block 0 ≡ false
  some = not_same block 0 (λ zero. let past = within.0 in omega (arith, past, zero))

  placed : is_data_block_or_none g block ≡ true
  placed = by (nat_eq block 0)
    where
      by : (t : Bool) → (t || is_data g block) ≡ true
      by true = refl
      by false = lies

  none : inode_attributes.verifier ≡ None
  none = made_of g image inodes link inode_attributes sound same file_kinds.Link (sym is)

  named : names_first 1 link.direct ≡ true
  named = λ i. (not (some i) && true) && true

  link_good : is_sound_kind g kinds.Link link ≡ true
  link_good = λ i. file_good g image inodes link inode_attributes sound same i && ((placed i && true) && true && true && true)
      && (le-leb 1 (length target) (let more = good.some in omega (arith, more)) i
      && le-leb (length target) TARGET_BYTES good.short i && eq-eqb inode_attributes.parent 0 no_parents i
      && named i && true && true && is_none (none i))

  pub link_sound : SoundInode g link
  unfolding is_sound_inode
  link_sound = record {
    fits = record {
      mode = let most = sound.mode in omega (arith, most);
      uid = sound.uid;
      gid = sound.gid;
      nlink = let most = sound.nlink in omega (arith, most);
      size = let most = good.short in omega (arith, most);
      atime = (sound.atime.seconds, let few = sound.atime.nanoseconds in omega (arith, few));
      mtime = (sound.mtime.seconds, let few = sound.mtime.nanoseconds in omega (arith, few));
      ctime = (sound.ctime.seconds, let few = sound.ctime.nanoseconds in omega (arith, few));
      boot = sound.stamp.boot;
      transaction = sound.stamp.transaction;
      parent = let zero = no_parents in omega (arith, zero);
      verifier = no_verifier g image inodes link inode_attributes sound same inode_attributes.verifier none;
      count = refl;
      direct = (let low = within.1 in let most = g.lawful.0.1 in omega (arith, low, most), zeros_below 7);
      indirect = omega arith;
      double = omega arith;
    };
    good = link_good;
  }
