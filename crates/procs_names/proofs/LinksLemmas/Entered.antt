-- What a sound tree says of a name that a directory gets.
use Rattle.std.proofs.Common.{◌≡◌, ℕ, ◌+◌, ◌*◌, ◌<◌, ◌≤◌, sym, ap, subst, ◌∙◌, refl, Bool, true, false}
use Rattle.std.proofs.Common.{cond, not, List, [], ◌∷◌, Option, Some, None, arith, inl}
use Rattle.std.specs.List.{find, range_with_len}
use Rattle.base.specs.declared.TheConstants.{MOST_LINKS, MOST_SPAN, SLOTS_PER_BLOCK}
use Rattle.nfs_types.specs.Fits.{AreBytes}
use Rattle.nfs_types.specs.declared.ctx.Moment.{Moment}
use Rattle.nfs_types.specs.declared.verifier.Verifier.{Verifier}
use Rattle.nfs_spec.specs.Model.Names.{is_directory, parent_of}
use Rattle.nfs_spec.specs.Model.Node.{Node, Body, DirentValue, Regular, Directory, Link}
use Rattle.nfs_spec.specs.Model.Sound.{Sound, SoundTime, SoundVerifier}
use Rattle.nfs_spec.specs.Model.Tree.{Tree, free, node_at}
use Rattle.nfs_spec.proofs.ProceduresLemmas.TreeChanges.{Placed}
use Rattle.nfs_spec.proofs.ProceduresLemmas.NameChanges.{least_is_free, sound_name}
use Rattle.nfs_spec.proofs.ProceduresLemmas.Soundness.{no_dirent}
use Rattle.nfs_spec.specs.Procedures.Changes.{entered, parent_links, with_dirent}
use Rattle.nfs_spec.specs.Procedures.Places.{is_taken_slot, least_free_slot, named_file}
use Rattle.procs_files.specs.Writable.{CanEnter, adds}
use Rattle.procs_names.proofs.LinksLemmas.WithinSpan.{least_is_within_span}
use Rattle.procs_names.proofs.LinksLemmas.SoundShapes.{sound_shape}
use Rattle.procs_names.specs.Links.Shapes.{CanEnterAt, IsShaped}

verifier_entered : (name : List ℕ) (dirent : DirentValue) (body : Body) (verifier : Option Verifier)
    → SoundVerifier body verifier → SoundVerifier (with_dirent name dirent body) verifier
verifier_entered name dirent (Regular bytes mapped) verifier good = good
verifier_entered name dirent (Directory named span parent) verifier good = good
verifier_entered name dirent (Link target) verifier good = good

kind_entered : (name : List ℕ) (dirent : DirentValue) (body : Body)
    → is_directory (with_dirent name dirent body) ≡ is_directory body
kind_entered name dirent (Regular bytes mapped) = refl
kind_entered name dirent (Directory named span parent) = refl
kind_entered name dirent (Link target) = refl

parent_entered : (name : List ℕ) (dirent : DirentValue) (body : Body)
    → parent_of (with_dirent name dirent body) ≡ parent_of body
parent_entered name dirent (Regular bytes mapped) = refl
parent_entered name dirent (Directory named span parent) = refl
parent_entered name dirent (Link target) = refl

pub shaped_entered : (inodes : ℕ) (moment : Moment) (name : List ℕ) (dirent : DirentValue) (file : Body)
    (node : Node) → IsShaped inodes node → SoundTime moment → node.nlink + parent_links file ≤ MOST_LINKS
    → IsShaped inodes (entered moment name dirent file node)
shaped_entered inodes moment name dirent file node shaped now few =
    let linked = shaped.linked in
    record {
      mode = shaped.mode;
      uid = shaped.uid;
      gid = shaped.gid;
      linked = omega (arith, linked);
      nlink = few;
      atime = shaped.atime;
      mtime = now;
      ctime = now;
      stamp = shaped.stamp;
      verifier = verifier_entered name dirent node.body node.verifier shaped.verifier;
      directory = λ dir.
          let known = shaped.directory (sym (kind_entered name dirent node.body) ∙ dir) in
          let two = known.0 in
          let parent = sym (parent_entered name dirent node.body) in (
            omega (arith, two),
            subst (λ p. 0 < p) parent known.1,
            subst (λ p. p < inodes) parent known.2,
          );
    }

-- a directory of which all this is known
pub can_enter_at : (tree : Tree) (at : ℕ) (directory : Node) → node_at tree at ≡ Some directory
    → (moment : Moment) (name : List ℕ) (dirent : DirentValue) (file : Body)
    → IsShaped tree.geometry.inodes (entered moment name dirent file directory)
    → CanEnter tree directory.body name dirent
    → adds (with_dirent name dirent directory.body) directory.body ≤ free tree
    → CanEnterAt tree moment at name dirent file
can_enter_at tree at directory stands moment name dirent file shaped enters has_space = record {
  shaped = λ node is. subst (λ n. IsShaped tree.geometry.inodes (entered moment name dirent file n))
      (one node is) shaped;
  enters = λ node is. subst (λ n. CanEnter tree n.body name dirent) (one node is) enters;
  has_space = λ node is. subst (λ n. adds (with_dirent name dirent n.body) n.body ≤ free tree) (one node is) has_space;
}
  where
    one : (node : Node) → node_at tree at ≡ Some node → directory ≡ node
    one node is = let same : Some directory ≡ Some node = sym stands ∙ is in cc

found_passes : (p : ℕ → Bool) (xs : List ℕ) (x : ℕ) → find p xs ≡ Some x → p x ≡ true
found_passes p [] x is = cc
found_passes p (y ∷ ys) x is = by (p y) refl (found_passes p ys x) is
  where
    by : (b : Bool) → p y ≡ b → (find p ys ≡ Some x → p x ≡ true) → cond b (Some y) (find p ys) ≡ Some x
        → p x ≡ true
    by true passes rest e = let same : y ≡ x = cc in ap p (sym same) ∙ passes
    by false fails rest e = rest e

not_taken : (body : Body) (slot : ℕ) → least_free_slot body ≡ Some slot → is_taken_slot body slot ≡ false
not_taken body slot is =
    turned (is_taken_slot body slot)
    (found_passes (λ s. not (is_taken_slot body s)) (range_with_len 0 (SLOTS_PER_BLOCK * MOST_SPAN)) slot is)
  where
    turned : (b : Bool) → not b ≡ true → b ≡ false
    turned true e = cc
    turned false e = refl

-- a new name in the least free slot
pub can_enter_new : (tree : Tree) → Sound tree → (at : ℕ) (directory : Node) → node_at tree at ≡ Some directory
    → (moment : Moment) → SoundTime moment → (name : List ℕ) → Placed directory name → AreBytes name
    → named_file tree directory name ≡ None → (dirent : DirentValue)
    → least_free_slot directory.body ≡ Some dirent.slot → 0 < dirent.number
    → dirent.number < tree.geometry.inodes → (file : Body)
    → directory.nlink + parent_links file ≤ MOST_LINKS
    → adds (with_dirent name dirent directory.body) directory.body ≤ free tree
    → CanEnterAt tree moment at name dirent file
can_enter_new tree good at directory stands moment now name placed bytes absent dirent slot some within file few has_space =
    can_enter_at tree at directory stands moment name dirent file
    (shaped_entered tree.geometry.inodes moment name dirent file directory
    (sound_shape tree good at directory stands) now few)
    (record {
      directory = placed.directory_is;
      lawful = sound_name directory name placed bytes;
      some = some;
      within = within;
      slot = (least_is_free directory.body dirent.slot slot).1;
      within_span = least_is_within_span directory.body dirent.slot (good.files at directory stands).itself.body
          (least_is_free directory.body dirent.slot slot).1 slot;
      own = inl (
        no_dirent tree good at directory stands name absent,
        not_taken directory.body dirent.slot slot,
      );
    }) has_space
