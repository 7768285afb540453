-- The tree of a fresh image is sound.
use Rattle.std.proofs.Common.{◌≡◌, ℕ, ◌+◌, sym, ap, subst, ◌∙◌, refl, List, [], Some, sum_by, count_by, All}
use Rattle.std.proofs.Common.{IsSome, nat_eq, arith, lit<, lit≤, zero-add}
use Rattle.std.specs.Cmp.Lexicographic.{slice_cmp}
use Rattle.std.specs.Ordering.{nat_cmp}
use Rattle.std.specs.FinMap.{empty, entries, get, get-empty}
use Rattle.base.specs.declared.TheConstants.{ROOT}
use Rattle.nfs_types.specs.declared.ctx.Moment.{Moment}
use Rattle.nfs_spec.specs.Model.Node.{Node, DirentValue}
use Rattle.nfs_spec.specs.Model.Tree.{Geometry, Tree, node_at, used}
use Rattle.nfs_spec.specs.Model.Cost.{cost}
use Rattle.nfs_spec.specs.Model.Names.{names_of, names_in, child_directories, is_directory_at}
use Rattle.nfs_spec.specs.Model.Sound.{Sound, SoundAt, SoundNode, SoundEntries, SoundGeometry, SoundTime}
use Rattle.nfs_spec.specs.Model.Format.{format_tree, format_root}
use Rattle.nfs_spec.proofs.ModelLemmas.Maps.{entries-empty, entries-one, get-one, only_one}

no_dirent : (name : List ℕ) (dirent : DirentValue) {A : Type 0}
    → get (empty {X = DirentValue} {R = slice_cmp nat_cmp}) name ≡ Some dirent → A
no_dirent name dirent e = let none = get-empty {X = DirentValue} (slice_cmp nat_cmp) name in cc

none : entries (empty {X = DirentValue} {R = slice_cmp nat_cmp}) ≡ []
none = entries-empty (slice_cmp nat_cmp)

empty_directory : SoundEntries empty 0
empty_directory = record {
  blocks = lit≤ tt;
  names = λ name dirent is. no_dirent name dirent is;
  slots = λ name dirent is. no_dirent name dirent is;
  distinct = λ one other a b is _ _. no_dirent one a is;
}

module _ (geometry : Geometry) (moment : Moment) where
  abbrev tree : Tree
  tree = format_tree geometry moment

  abbrev root : Node
  root = format_root moment

  root_is : node_at tree ROOT ≡ Some root
  root_is = get-one ROOT root ROOT

  unnamed : (number : ℕ) → names_in number root.body ≡ 0
  unnamed number = ap (count_by (λ dirent. nat_eq dirent.1.number number)) none

  nameless : (number : ℕ) → names_of tree number ≡ 0
  nameless number = ap (sum_by (λ dirent. names_in number dirent.1.body)) (entries-one ROOT root) ∙ zero-add _
      ∙ unnamed number

  childless : child_directories tree root.body ≡ 0
  childless = ap (count_by (λ dirent. is_directory_at (node_at tree dirent.1.number))) none

  nothing_used : used tree ≡ 0
  nothing_used = ap (sum_by (λ dirent. cost dirent.1.body)) (entries-one ROOT root)

  sound_root : SoundTime moment → SoundNode root
  sound_root time = record {
    mode = lit≤ tt;
    uid = lit< tt;
    gid = lit< tt;
    nlink = lit≤ tt;
    atime = time;
    mtime = time;
    ctime = time;
    stamp = record { boot = lit< tt; transaction = lit< tt };
    verifier = refl;
    body = empty_directory;
  }

  at_root : SoundGeometry geometry → SoundTime moment → SoundAt tree ROOT root
  at_root fits time = record {
    least = lit< tt;
    most = let enough = fits.inodes in omega arith;
    itself = sound_root time;
    names = subst (All (λ dirent. IsSome (node_at tree dirent.1.number))) (sym none)
        (λ k dirent below. absurd (omega arith));
    links = λ no. cc;
    directory = λ _. record {
      counted = ap (λ n. 2 + n) (sym childless);
      root = λ _. record { unnamed = nameless ROOT; parent = refl };
      child = λ other. absurd (other refl);
      reached = (0, refl);
    };
  }

  pub sound : SoundGeometry geometry → SoundTime moment → Sound tree
  sound fits time = record {
    geometry = fits;
    root = root;
    root_is = root_is;
    root_directory = refl;
    root_stamp = refl;
    files = λ number node is.
        let only = only_one ROOT number root node is in
        let here : SoundAt tree number root =
        subst (λ n. SoundAt tree n root) (sym only.0) (at_root fits time) in
        subst (SoundAt tree number) (sym only.1) here;
    has_space = let used_is = nothing_used in omega arith;
  }
