-- A move that passed its tests can be made of a sound tree, and the blocks that it needs.
use Rattle.std.proofs.Common.{◌≡◌, ◌≢◌, ◌⊎◌, inl, inr, ℕ, ◌+◌, ◌*◌, ◌<◌, ◌≤◌, sym, ap, subst, ◌∙◌, refl, Bool, true}
use Rattle.std.proofs.Common.{false, cond, not, ◌&&◌, List, length, nat_eq, nat_le, nat_lt, Option, Some, None, arith}
use Rattle.std.proofs.lemmas.Bool.Decides.{nat_tests}
use Rattle.std.proofs.lemmas.List.Sums.{count_by-le-length}
use Rattle.std.specs.Cmp.Lexicographic.{nat_list_cmp_total, slice_cmp}
use Rattle.std.specs.FinMap.{get, get-remove}
use Rattle.std.specs.Option.{option_map}
use Rattle.std.specs.Ordering.{eq_by_cmp, nat_cmp}
use Rattle.base.specs.declared.TheConstants.{MOST_LINKS, MOST_SPAN, SLOTS_PER_BLOCK}
use Rattle.nfs_types.specs.Fits.{AreBytes}
use Rattle.nfs_types.specs.declared.ctx.Moment.{Moment}
use Rattle.nfs_types.specs.declared.verifier.Verifier.{Verifier}
use Rattle.nfs_spec.specs.Model.Cost.{cost}
use Rattle.nfs_spec.specs.Model.Names.{entries_of, is_directory, parent_of}
use Rattle.nfs_spec.specs.Model.Node.{Node, Body, DirentValue, Regular, Directory, Link}
use Rattle.nfs_spec.specs.Model.SetAttr.{given}
use Rattle.nfs_spec.specs.Model.Sound.{Sound, SoundNode, SoundTime, SoundVerifier}
use Rattle.nfs_spec.specs.Model.Tree.{Tree, cost_at, free, need, node_at, with_node}
use Rattle.nfs_spec.proofs.ProceduresLemmas.TreeChanges.{NamedBy, Placed, named_is, passed}
use Rattle.nfs_spec.proofs.ProceduresLemmas.NameChanges.{FreeSlot, count_departed, dirent_before, least_is_free, named_in, names_apart}
use Rattle.nfs_spec.proofs.ProceduresLemmas.NameChanges.{same_kind_departed, sound_name}
use Rattle.nfs_spec.proofs.ProceduresLemmas.Lacking.{Change, Lacking, equal_or_not, none_lacks, of_sound, put_change}
use Rattle.nfs_spec.proofs.ProceduresLemmas.Naming.{depart, not_in_itself, one_less, one_of_other}
use Rattle.nfs_spec.proofs.ProceduresLemmas.Parts.{one_key}
use Rattle.nfs_spec.proofs.ProceduresLemmas.Renaming.{body_distinct, body_slots, dirent_gone}
use Rattle.nfs_spec.proofs.ProceduresLemmas.UsedWithin.{used_within}
use Rattle.nfs_spec.proofs.ProceduresLemmas.Soundness.{changed_is, few_links, links_of_directory, no_dirent, parent_links_is}
use Rattle.nfs_spec.proofs.ProceduresLemmas.Soundness.{same_geometry}
use Rattle.nfs_spec.proofs.ProceduresLemmas.Sums.{need_of_one}
use Rattle.nfs_spec.proofs.ProceduresLemmas.Tests.{differs, equal, unequal}
use Rattle.nfs_spec.proofs.ProceduresLemmas.Within.{never_reached}
use Rattle.nfs_spec.specs.Procedures.Changes.{changed_at, departed, entered, parent_links, unnamed, with_dirent}
use Rattle.nfs_spec.specs.Procedures.Changes.{without_dirent, without_name}
use Rattle.nfs_spec.specs.Procedures.MkDir.{is_full}
use Rattle.nfs_spec.specs.Procedures.Places.{dirent_at}
use Rattle.nfs_spec.specs.Procedures.Rename.{Dentry, file_in, goes_below_itself, has_no_link, is_other_sort, is_within}
use Rattle.nfs_spec.specs.Procedures.Rename.{move_refusal, moved, new_slot, slot_for, with_moved, with_parent}
use Rattle.nfs_spec.specs.Procedures.RmDir.{has_names, is_found_filled}
use Rattle.procs_files.specs.Writable.{CanEnter, adds, spanned}
use Rattle.procs_names.proofs.LinksLemmas.Entered.{can_enter_at, shaped_entered}
use Rattle.procs_names.proofs.LinksLemmas.WithinSpan.{least_is_within_span, named_is_within_span, same_span, slot_untaken}
use Rattle.procs_names.proofs.LinksLemmas.Needs.{need_put}
use Rattle.procs_names.proofs.LinksLemmas.Shaped.{elsewhere, same_inodes}
use Rattle.procs_names.proofs.LinksLemmas.SoundShapes.{can_lose, can_take, shape_of, sound_shape}
use Rattle.procs_names.specs.Links.Shapes.{CanTake, IsShaped}
use Rattle.procs_renames.proofs.Spaces.{same_cost_departed, same_more_departed, same_need, unnamed_need}
use Rattle.procs_renames.proofs.Spaces.{unnamed_there}
use Rattle.procs_renames.specs.Placing.{CanMove, CanLinkRenamed, CanReplace, left_tree}

-- What the tests of a move show, for a slot of the new name.
pub record Goes (tree : Tree) (source target : Dentry) (number : ℕ) (node : Node) (slot : ℕ) : Type 0 where
  pub source_stands : node_at tree source.number ≡ Some source.directory
  pub target_stands : node_at tree target.number ≡ Some target.directory
  pub placed : Placed target.directory target.name
  pub bytes : AreBytes target.name
  pub found : file_in tree source ≡ Some (number, node)
  pub apart : given (file_in tree target) (λ other. nat_eq other.0 number) ≡ false
  pub tested : move_refusal tree number node source target (file_in tree target) ≡ None
  pub slot_is : new_slot source target ≡ Some slot

-- ---- directories by their entries

preserved_by : (b : Bool) (o : Option DirentValue) → b ≡ false → cond b None o ≡ o
preserved_by true o e = cc
preserved_by false o e = refl

-- another name leads where it led
dirent_preserved : (name other : List ℕ) (body : Body) → other ≢ name
    → dirent_at (without_dirent name body) other ≡ dirent_at body other
dirent_preserved name other (Regular bytes mapped) apart = refl
dirent_preserved name other (Directory named span parent) apart =
    get-remove nat_list_cmp_total named name other
    ∙ preserved_by _ (get named other) (not_tied (eq_by_cmp (slice_cmp nat_cmp) other name) refl)
  where
    not_tied : (b : Bool) → eq_by_cmp (slice_cmp nat_cmp) other name ≡ b → b ≡ false
    not_tied true e = absurd (apart (one_key names_apart other name e))
    not_tied false e = refl
dirent_preserved name other (Link target) apart = refl

-- a directory with an entry has names in it
filled : (body : Body) (name : List ℕ) (dirent : DirentValue) → dirent_at body name ≡ Some dirent
    → has_names body ≡ false → ⊥
filled body name dirent is none =
    let sum = count_departed (λ e. true) name dirent body is in
    let most = count_by-le-length (λ e. true) (entries_of body) in
    let empty = not_some (length (entries_of body)) none in
    omega (arith, sum, most, empty)
  where
    not_some : (n : ℕ) → nat_lt 0 n ≡ false → n ≡ 0
    not_some n e = grind (arith, nat_tests, e)

none_at : (body : Body) (name : List ℕ) (o : Option DirentValue) → dirent_at body name ≡ o
    → ((dirent : DirentValue) → dirent_at body name ≡ Some dirent → ⊥) → o ≡ None
none_at body name None is never = refl
none_at body name (Some dirent) is never = absurd (never dirent is)

-- ---- files in their new places

same_kind : (parent : ℕ) (body : Body) → is_directory (with_parent parent body) ≡ is_directory body
same_kind parent (Regular bytes mapped) = refl
same_kind parent (Directory named span old) = refl
same_kind parent (Link target) = refl

same_cost : (parent : ℕ) (body : Body) → cost (with_parent parent body) ≡ cost body
same_cost parent (Regular bytes mapped) = refl
same_cost parent (Directory named span old) = refl
same_cost parent (Link target) = refl

new_parent : (parent : ℕ) (body : Body) → is_directory body ≡ true → parent ≡ parent_of (with_parent parent body)
new_parent parent (Regular bytes mapped) dir = cc
new_parent parent (Directory named span old) dir = refl
new_parent parent (Link target) dir = cc

sound_verifier : (parent : ℕ) (body : Body) (verifier : Option Verifier) → SoundVerifier body verifier
    → SoundVerifier (with_parent parent body) verifier
sound_verifier parent (Regular bytes mapped) verifier good = good
sound_verifier parent (Directory named span old) verifier good = good
sound_verifier parent (Link target) verifier good = good

shaped_moved : (inodes : ℕ) (moment : Moment) (parent : ℕ) (node : Node) → IsShaped inodes node → SoundTime moment
    → 0 < parent → parent < inodes → IsShaped inodes (moved moment parent node)
shaped_moved inodes moment parent node shaped soon least most = record {
  mode = shaped.mode;
  uid = shaped.uid;
  gid = shaped.gid;
  linked = shaped.linked;
  nlink = shaped.nlink;
  atime = shaped.atime;
  mtime = shaped.mtime;
  ctime = soon;
  stamp = shaped.stamp;
  verifier = sound_verifier parent node.body node.verifier shaped.verifier;
  directory = λ dir.
      let was = sym (same_kind parent node.body) ∙ dir in
      let is = new_parent parent node.body was in (
        (shaped.directory was).0,
        subst (λ p. 0 < p) is least,
        subst (λ p. p < inodes) is most,
      );
}

and_none : (a b : Bool) → (a && b) ≡ false → a ≡ true → b ≡ false
and_none true b e yes_a = e
and_none false b e yes_a = cc

third : (a b c : Bool) → (a && true && not b && c) ≡ false → a ≡ true → b ≡ false → c ≡ false
third true true c e is_a no_b = cc
third true false c e is_a no_b = e
third false b c e is_a no_b = cc

not_full : (directory : Node) → directory.nlink + 1 ≤ MOST_LINKS → is_full directory ≡ false
not_full directory few = small directory.nlink few
  where
    small : (n : ℕ) → n + 1 ≤ MOST_LINKS → nat_le MOST_LINKS n ≡ false
    small n h = grind (arith, nat_tests, h)

-- what replaces a directory is one
same_sort : (node other : Node) → is_other_sort node (Some (0, other)) ≡ false
    → parent_links node.body ≡ parent_links other.body
same_sort node other = by (is_directory node.body) (is_directory other.body)
  where
    by : (a b : Bool) → cond a (not b) b ≡ false → ◌≡◌ {A = ℕ} (cond a 1 0) (cond b 1 0)
    by true true e = refl
    by true false e = cc
    by false true e = cc
    by false false e = refl

-- ---- the move

module _ (tree : Tree) (good : Sound tree) (moment : Moment) (soon : SoundTime moment) (source target : Dentry)
    (number : ℕ) (node : Node) (slot : ℕ) (d : Goes tree source target number node slot) where
  abbrev base : Lacking tree none_lacks
  base = of_sound tree good

  named : NamedBy tree source.directory.body source.name (number, node)
  named = named_is tree source.directory source.name (number, node) d.found

  named_there : node_at tree named.dirent.number ≡ Some node
  named_there = ap (node_at tree) named.number_is ∙ named.stands

  abbrev less : Node
  less = departed moment source.name node.body source.directory

  abbrev left : Tree
  left = with_node tree source.number less

  abbrev lacking : ℕ → ℕ
  lacking = one_less none_lacks number

  left_is : left_tree tree moment source.number source.name node.body ≡ left
  left_is = changed_is tree source.number (departed moment source.name node.body) source.directory d.source_stands

  left_lacks : Lacking left lacking
  left_lacks =
      subst (λ n. Lacking left (one_less none_lacks n)) named.number_is
      (depart tree none_lacks base source.number source.directory d.source_stands source.name named.dirent
      named.dirent_is node named_there refl moment soon)

  apart_source : number ≢ source.number
  apart_source same =
      not_in_itself tree none_lacks base source.number source.directory d.source_stands source.name named.dirent
      named.dirent_is node named_there refl (named.number_is ∙ same)

  below_test : goes_below_itself tree (number, node) target.number ≡ false
  below_test = (passed (goes_below_itself tree (number, node) target.number) _ _ d.tested).0

  sort_test : is_other_sort node (file_in tree target) ≡ false
  sort_test =
      (passed (is_other_sort node (file_in tree target)) _ _
      (passed (goes_below_itself tree (number, node) target.number) _ _ d.tested).1).0

  empty_test : is_found_filled (file_in tree target) ≡ false
  empty_test =
      let below = passed (goes_below_itself tree (number, node) target.number) _ _ d.tested in
      let sort = passed (is_other_sort node (file_in tree target)) _ _ below.1 in
      (passed (is_found_filled (file_in tree target)) _ _ sort.1).0

  link_test : has_no_link node source.number (target.number, target.directory) (file_in tree target) ≡ false
  link_test =
      let below = passed (goes_below_itself tree (number, node) target.number) _ _ d.tested in
      let sort = passed (is_other_sort node (file_in tree target)) _ _ below.1 in
      let filled = passed (is_found_filled (file_in tree target)) _ _ sort.1 in
      (passed (has_no_link node source.number (target.number, target.directory) (file_in tree target)) _ _ filled.1).0

  number_is_some : 0 < number
  number_is_some = (good.files number node named.stands).least

  apart_target : number ≢ target.number
  apart_target same =
      let one : Some node ≡ Some target.directory =
      sym named.stands ∙ ap (node_at tree) same ∙ d.target_stands in
      let node_is : node ≡ target.directory = cc in
      let dir : is_directory node.body ≡ true = ap (λ n. is_directory n.body) node_is ∙ d.placed.directory_is in
      never_reached tree good number target.number number_is_some
      (and_none (is_directory node.body) (is_within tree number target.number) below_test dir) 0 (sym same)

  target_sound : SoundNode target.directory
  target_sound = (good.files target.number target.directory d.target_stands).itself

  source_sound : SoundNode source.directory
  source_sound = (good.files source.number source.directory d.source_stands).itself

  at_target : cost_at (node_at tree target.number) ≡ cost target.directory.body
  at_target = ap cost_at d.target_stands

  left_need : need tree left ≡ 0
  left_need =
      let one = need_of_one tree source.number source.directory less d.source_stands in
      let same = same_cost_departed source.name source.directory.body in
      omega (arith, one, same)

  -- The target's directory once the name has left the source's.
  record Target : Type 0 where
    directory : Node
    is : node_at left target.number ≡ Some directory
    kind : is_directory directory.body ≡ true
    before : (name : List ℕ) (dirent : DirentValue) → dirent_at directory.body name ≡ Some dirent
        → dirent_at target.directory.body name ≡ Some dirent
    old_gone : target.number ≡ source.number → dirent_at directory.body source.name ≡ None
    is_preserved : (dirent : DirentValue) → dirent_at target.directory.body target.name ≡ Some dirent
        → dirent.number ≢ number → dirent_at directory.body target.name ≡ Some dirent
    few : target.number ≡ source.number → 1 ≤ parent_links node.body → directory.nlink + 1 ≤ MOST_LINKS
    same_links : target.number ≢ source.number → directory ≡ target.directory
    cost_is : cost directory.body ≡ cost target.directory.body
    more_is : (name : List ℕ) (dirent : DirentValue)
        → cost (with_dirent name dirent directory.body) ≡ cost (with_dirent name dirent target.directory.body)

  few_by : 1 ≤ parent_links node.body → less.nlink + 1 ≤ MOST_LINKS
  few_by one =
      let small = source_sound.nlink in
      let some = (sound_shape tree good source.number source.directory d.source_stands).linked in
      omega (arith, one, small, some)

  put_left : Change tree left source.number (Some source.directory) (Some less)
  put_left = put_change tree source.number (Some source.directory) less d.source_stands

  target_same : target.number ≡ source.number → Target
  target_same same =
      let one : Some target.directory ≡ Some source.directory =
      sym d.target_stands ∙ ap (node_at tree) same ∙ d.source_stands in
      let directory_is : target.directory ≡ source.directory = cc in
      let at : (name : List ℕ) → dirent_at target.directory.body name ≡ dirent_at source.directory.body name =
      λ name. ap (λ n. dirent_at n.body name) directory_is in
      record {
        directory = less;
        is = ap (node_at left) same ∙ put_left.here;
        kind = same_kind_departed source.name source.directory.body
            ∙ ap (λ n. is_directory n.body) (sym directory_is) ∙ d.placed.directory_is;
        before = λ name dirent is. at name ∙ dirent_before source.name name source.directory.body dirent is;
        old_gone = λ _. dirent_gone source.name source.directory.body;
        is_preserved = λ dirent is other.
            dirent_preserved source.name target.name source.directory.body (λ same_name.
            let both : Some dirent ≡ Some named.dirent =
            sym is ∙ at target.name ∙ ap (dirent_at source.directory.body) same_name ∙ named.dirent_is in
            let dirent_is : dirent ≡ named.dirent = cc in
            other (ap (λ e. e.number) dirent_is ∙ named.number_is))
            ∙ sym (at target.name) ∙ is;
        few = λ _ one_link. few_by one_link;
        same_links = λ apart. absurd (apart same);
        cost_is = same_cost_departed source.name source.directory.body
            ∙ ap (λ n. cost n.body) (sym directory_is);
        more_is = λ name dirent. same_more_departed source.name source.directory.body name dirent
            ∙ ap (λ n. cost (with_dirent name dirent n.body)) (sym directory_is);
      }

  target_other : target.number ≢ source.number → Target
  target_other apart = record {
    directory = target.directory;
    is = put_left.there target.number apart ∙ d.target_stands;
    kind = d.placed.directory_is;
    before = λ name dirent is. is;
    old_gone = λ same. absurd (apart same);
    is_preserved = λ dirent is other. is;
    few = λ same. absurd (apart same);
    same_links = λ _. refl;
    cost_is = refl;
    more_is = λ name dirent. refl;
  }

  on_target : Target
  on_target =
      elim (equal_or_not target.number source.number) [
        | inl same ↦ target_same same
        | inr apart ↦ target_other apart
      ]

  -- The tree once nothing stands in the way.
  record TargetFreed : Type 0 where
    tree_is : Tree
    made : without_name left moment target.number target.name (file_in tree target) ≡ tree_is
    directory : Node
    is : node_at tree_is target.number ≡ Some directory
    shaped : IsShaped tree.geometry.inodes directory
    kind : is_directory directory.body ≡ true
    before : (name : List ℕ) (dirent : DirentValue) → dirent_at directory.body name ≡ Some dirent
        → dirent_at target.directory.body name ≡ Some dirent
    old_gone : target.number ≡ source.number → dirent_at directory.body source.name ≡ None
    absent : dirent_at directory.body target.name ≡ None
    few : directory.nlink + parent_links node.body ≤ MOST_LINKS
    node_is : node_at tree_is number ≡ Some node
    geometry : tree_is.geometry ≡ tree.geometry
    unneeded : need tree tree_is ≡ 0
    cost_is : cost directory.body ≡ cost target.directory.body
    more_is : (name : List ℕ) (dirent : DirentValue)
        → cost (with_dirent name dirent directory.body) ≡ cost (with_dirent name dirent target.directory.body)
    takes : (other : ℕ × Node) → file_in tree target ≡ Some other
        → CanTake left moment target.number target.name other.0 other.1
    not_source : (other : ℕ × Node) → file_in tree target ≡ Some other → other.0 ≢ source.number

  node_in_left : node_at left number ≡ Some node
  node_in_left = put_left.there number apart_source ∙ named.stands

  space_for_link : file_in tree target ≡ None → target.number ≢ source.number → is_directory node.body ≡ true
      → is_full target.directory ≡ false
  space_for_link none apart dir =
      let test : has_no_link node source.number (target.number, target.directory) None ≡ false =
      ap (has_no_link node source.number (target.number, target.directory)) (sym none) ∙ link_test in
      third (is_directory node.body) (nat_eq source.number target.number) (is_full target.directory) test dir
      (unequal source.number target.number (λ same. apart (sym same)))

  few_in_left : (t : Target) → file_in tree target ≡ None
      → t.directory.nlink + parent_links node.body ≤ MOST_LINKS
  few_in_left t none =
      few_links (parent_links node.body) t.directory
      (left_lacks.files target.number t.directory t.is).itself.nlink (parent_links_is node.body) (λ one.
      elim (equal_or_not target.number source.number) [
        | inl same ↦ not_full t.directory (t.few same one)
        | inr apart ↦ ap is_full (t.same_links apart)
            ∙ space_for_link none apart (links_of_directory node.body one)
      ])

  -- nothing stands there
  nothing_there : (t : Target) → file_in tree target ≡ None → TargetFreed
  nothing_there t none = record {
    tree_is = left;
    made = ap (without_name left moment target.number target.name) none;
    directory = t.directory;
    is = t.is;
    shaped = shape_of left lacking left_lacks target.number t.directory t.is;
    kind = t.kind;
    before = t.before;
    old_gone = t.old_gone;
    absent = none_at t.directory.body target.name (dirent_at t.directory.body target.name) refl (λ dirent is.
        let there = t.before target.name dirent is in
        let absent = no_dirent tree good target.number target.directory d.target_stands target.name none in
        let never : None ≡ Some dirent = sym absent ∙ there in cc);
    few = few_in_left t none;
    node_is = node_in_left;
    geometry = refl;
    unneeded = left_need;
    cost_is = t.cost_is;
    more_is = t.more_is;
    takes = λ other there. let never : None ≡ Some other = sym none ∙ there in cc;
    not_source = λ other there same. let never : None ≡ Some other = sym none ∙ there in cc;
  }

  -- a file stands there
  module _ (t : Target) (other : ℕ × Node) (there : file_in tree target ≡ Some other) where
    in_way : NamedBy tree target.directory.body target.name other
    in_way = named_is tree target.directory target.name other there

    other_apart : other.0 ≢ number
    other_apart =
        differs other.0 number (ap (λ o. given o (λ file. nat_eq file.0 number)) (sym there) ∙ d.apart)

    abbrev way : ℕ
    way = in_way.dirent.number

    way_apart : way ≢ number
    way_apart same = other_apart (sym in_way.number_is ∙ same)

    way_empty : is_directory other.1.body ≡ true → has_names other.1.body ≡ false
    way_empty dir = ap is_found_filled (sym there) ∙ empty_test

    way_stands : node_at tree way ≡ Some other.1
    way_stands = ap (node_at tree) in_way.number_is ∙ in_way.stands

    -- the source is a directory with a name in it
    way_not_source : way ≢ source.number
    way_not_source same =
        let one : Some other.1 ≡ Some source.directory =
        sym way_stands ∙ ap (node_at tree) same ∙ d.source_stands in
        let is : other.1 ≡ source.directory = cc in
        let dir = ap (λ n. is_directory n.body) is
        ∙ named_in source.directory.body source.name named.dirent named.dirent_is in
        let none = ap (λ n. has_names n.body) (sym is) ∙ way_empty dir in
        filled source.directory.body source.name named.dirent named.dirent_is none

    dirent_there : dirent_at t.directory.body target.name ≡ Some in_way.dirent
    dirent_there = t.is_preserved in_way.dirent in_way.dirent_is way_apart

    way_in_left : node_at left way ≡ Some other.1
    way_in_left = put_left.there way way_not_source ∙ way_stands

    whole : lacking way ≡ 0
    whole = let none = one_of_other number way way_apart in omega (arith, none)

    abbrev lesser : Node
    lesser = departed moment target.name other.1.body t.directory

    abbrev parted : Tree
    parted = with_node left target.number lesser

    parted_lacks : Lacking parted (one_less lacking way)
    parted_lacks =
        depart left lacking left_lacks target.number t.directory t.is target.name in_way.dirent dirent_there other.1
        way_in_left whole moment soon

    way_not_target : way ≢ target.number
    way_not_target =
        not_in_itself left lacking left_lacks target.number t.directory t.is target.name in_way.dirent dirent_there
        other.1 way_in_left whole

    put_parted : Change left parted target.number (Some t.directory) (Some lesser)
    put_parted = put_change left target.number (Some t.directory) lesser t.is

    node_in_parted : node_at parted number ≡ Some node
    node_in_parted = put_parted.there number apart_target ∙ node_in_left

    way_in_parted : node_at parted way ≡ Some other.1
    way_in_parted = put_parted.there way way_not_target ∙ way_in_left

    lesser_shaped : IsShaped tree.geometry.inodes lesser
    lesser_shaped = shape_of parted (one_less lacking way) parted_lacks target.number lesser put_parted.here

    few_lesser : lesser.nlink + parent_links node.body ≤ MOST_LINKS
    few_lesser =
        let small = (left_lacks.files target.number t.directory t.is).itself.nlink in
        let some = (shape_of left lacking left_lacks target.number t.directory t.is).linked in
        let one = parent_links_is node.body in
        let same = same_sort node other.1 (ap (is_other_sort node) (sym there) ∙ sort_test) in
        omega (arith, small, some, one, same)

    parted_need : need tree parted ≡ 0
    parted_need =
        same_need tree left left_need target.number t.directory t.is lesser
        (same_cost_departed target.name t.directory.body) (at_target ∙ sym t.cost_is)

    taken : CanTake left moment target.number target.name other.0 other.1
    taken = record {
      departs = λ n is.
          let one : Some t.directory ≡ Some n = sym t.is ∙ is in
          let same : t.directory ≡ n = cc in
          subst (λ n. IsShaped tree.geometry.inodes (departed moment target.name other.1.body n)) same lesser_shaped;
      apart = λ same. way_not_target (in_way.number_is ∙ same);
      loses = can_lose left moment other.1 soon (sound_shape tree good other.0 other.1 in_way.stands);
    }

    file_in_way : TargetFreed
    file_in_way = record {
      tree_is = unnamed parted moment way other.1;
      made = ap (without_name left moment target.number target.name) there
          ∙ ap (λ s. unnamed s moment other.0 other.1)
          (changed_is left target.number (departed moment target.name other.1.body) t.directory t.is)
          ∙ ap (λ n. unnamed parted moment n other.1) (sym in_way.number_is);
      directory = lesser;
      is = unnamed_there parted moment way other.1 way_in_parted target.number (λ same. way_not_target (sym same))
          ∙ put_parted.here;
      shaped = lesser_shaped;
      kind = same_kind_departed target.name t.directory.body ∙ t.kind;
      before = λ name dirent is. t.before name dirent (dirent_before target.name name t.directory.body dirent is);
      old_gone = λ same. none_at lesser.body source.name (dirent_at lesser.body source.name) refl (λ dirent is.
          let was = dirent_before target.name source.name t.directory.body dirent is in
          let never : None ≡ Some dirent = sym (t.old_gone same) ∙ was in cc);
      absent = dirent_gone target.name t.directory.body;
      few = few_lesser;
      node_is = unnamed_there parted moment way other.1 way_in_parted number (λ same. way_apart (sym same))
          ∙ node_in_parted;
      geometry = same_geometry parted moment way other.1;
      unneeded = unnamed_need tree parted parted_need way other.1 way_in_parted moment (ap cost_at way_stands);
      cost_is = same_cost_departed target.name t.directory.body ∙ t.cost_is;
      more_is = λ name dirent. same_more_departed target.name t.directory.body name dirent ∙ t.more_is name dirent;
      takes = λ file found.
          let one : Some other ≡ Some file = sym there ∙ found in
          let same : other ≡ file = cc in
          subst (λ (o : ℕ × Node). CanTake left moment target.number target.name o.0 o.1) same taken;
      not_source = λ file found same_number.
          let one : Some other ≡ Some file = sym there ∙ found in
          let same : other ≡ file = cc in
          way_not_source (in_way.number_is ∙ ap (λ (o : ℕ × Node). o.0) same ∙ same_number);
    }

  cleared_of : (found : Option (ℕ × Node)) → file_in tree target ≡ found → TargetFreed
  cleared_of None none = nothing_there on_target none
  cleared_of (Some other) there = file_in_way on_target other there

  cleared : TargetFreed
  cleared = cleared_of (file_in tree target) refl

  -- The slot of the new name.

  record Slot : Type 0 where
    small : slot < SLOTS_PER_BLOCK * MOST_SPAN
    within_span : slot ≤ SLOTS_PER_BLOCK * spanned target.directory.body
    taken : (name : List ℕ) (dirent : DirentValue) → dirent_at target.directory.body name ≡ Some dirent
        → dirent.slot ≡ slot
        → (name ≡ target.name) ⊎ ((target.number ≡ source.number) × (name ≡ source.name))

  slot_within : (dirent : Option DirentValue) → dirent_at source.directory.body source.name ≡ dirent
      → target.number ≡ source.number → option_map (λ e. e.slot) dirent ≡ Some slot → Slot
  slot_within None is same found = cc
  slot_within (Some dirent) is same found =
      let slot_so : dirent.slot ≡ slot = cc in
      let one : Some target.directory ≡ Some source.directory =
      sym d.target_stands ∙ ap (node_at tree) same ∙ d.source_stands in
      let directory_is : target.directory ≡ source.directory = cc in
      let small = body_slots source.directory.body source.name dirent source_sound.body is in
      let low = named_is_within_span source.directory.body source.name dirent source_sound.body is in
      let wide = ap (λ (n : Node). spanned n.body) directory_is in
      record {
        small = omega (arith, slot_so, small);
        within_span = omega (arith, slot_so, low, wide);
        taken = λ name other has same_slot.
            inr (
              same,
              body_distinct source.directory.body name source.name other dirent source_sound.body
                  (ap (λ n. dirent_at n.body name) (sym directory_is) ∙ has) is (same_slot ∙ sym slot_so),
            );
      }

  slot_by : (within : Bool) (old replaced : Option DirentValue) → nat_eq source.number target.number ≡ within
      → dirent_at source.directory.body source.name ≡ old → dirent_at target.directory.body target.name ≡ replaced
      → slot_for within old replaced target.directory.body ≡ Some slot → Slot
  slot_by within old (Some dirent) same is has found =
      let slot_so : dirent.slot ≡ slot = cc in
      let small = body_slots target.directory.body target.name dirent target_sound.body has in
      let low = named_is_within_span target.directory.body target.name dirent target_sound.body has in
      record {
        small = omega (arith, slot_so, small);
        within_span = omega (arith, slot_so, low);
        taken = λ name other there same_slot.
            inl (body_distinct target.directory.body name target.name other dirent target_sound.body there has
            (same_slot ∙ sym slot_so));
      }
  slot_by true old None same is has found =
      slot_within old is (sym (equal source.number target.number same)) found
  slot_by false old None same is has found =
      let free = least_is_free target.directory.body slot found in
      record {
        small = free.1;
        within_span = least_is_within_span target.directory.body slot target_sound.body free.1 found;
        taken = λ name other there same_slot. absurd (free.0 name other there same_slot);
      }

  slot_so : Slot
  slot_so =
      slot_by (nat_eq source.number target.number) (dirent_at source.directory.body source.name)
      (dirent_at target.directory.body target.name) refl refl refl d.slot_is

  free_in : (c : TargetFreed) → FreeSlot c.directory.body slot
  free_in c name dirent is same_slot =
      elim (slot_so.taken name dirent (c.before name dirent is) same_slot) [
        | inl same_name ↦
            let there = ap (dirent_at c.directory.body) (sym same_name) ∙ is in
            let never : None ≡ Some dirent = sym c.absent ∙ there in cc
        | inr within ↦
            let there = ap (dirent_at c.directory.body) (sym within.1) ∙ is in
            let never : None ≡ Some dirent = sym (c.old_gone within.0) ∙ there in cc
      ]

  -- The blocks.

  abbrev dirent : DirentValue
  dirent = record { number = number; slot = slot }

  abbrev change : Node → Node
  change = entered moment target.name dirent node.body

  abbrev next : Tree
  next = (with_moved tree moment number node source target (file_in tree target) dirent).next

  pub move_needs : need tree next ≡ adds (with_dirent target.name dirent target.directory.body) target.directory.body
  move_needs =
      let c = cleared in
      let middle = with_node c.tree_is target.number (change c.directory) in
      let put = put_change c.tree_is target.number (Some c.directory) (change c.directory) c.is in
      let there = put.there number apart_target ∙ c.node_is in
      let leads : next ≡ with_node middle number (moved moment target.number node) =
      ap (λ s. changed_at (changed_at (without_name s moment target.number target.name (file_in tree target))
      target.number change) number (moved moment target.number)) left_is
      ∙ ap (λ s. changed_at (changed_at s target.number change) number (moved moment target.number)) c.made
      ∙ ap (λ s. changed_at s number (moved moment target.number))
      (changed_is c.tree_is target.number change c.directory c.is)
      ∙ changed_is middle number (moved moment target.number) node there in
      let one = need_put tree c.tree_is target.number (Some c.directory) (change c.directory) c.is in
      let two = need_put tree middle number (Some node) (moved moment target.number node) there in
      let at_number : cost_at (node_at tree number) ≡ cost node.body = ap cost_at named.stands in
      let same = same_cost target.number node.body in
      let none = c.unneeded in
      let cost_is = c.cost_is in
      let more_is = c.more_is target.name dirent in
      let sum = ap (need tree) leads in
      let before = at_target in
      omega (arith, one, two, at_number, same, none, cost_is, more_is, sum, before)

  -- The whole.

  module _ (has_space : adds (with_dirent target.name dirent target.directory.body) target.directory.body ≤ free tree)
      (c : TargetFreed) where
    enters : CanEnter c.tree_is c.directory.body target.name dirent
    enters =
        let most = (good.files number node named.stands).most in
        record {
          directory = c.kind;
          lawful = sound_name target.directory target.name d.placed d.bytes;
          some = number_is_some;
          within = subst (λ g. number < g.inodes) (sym c.geometry) most;
          slot = slot_so.small;
          within_span = let wide = same_span c.directory.body target.directory.body c.kind d.placed.directory_is c.cost_is in
              let low = slot_so.within_span in omega (arith, low, wide);
          own = inl (c.absent, slot_untaken c.directory.body slot (free_in c));
        }

    enough_left : adds (with_dirent target.name dirent c.directory.body) c.directory.body ≤ free c.tree_is
    enough_left =
        let uses = used_within tree c.tree_is in
        let none = c.unneeded in
        let same = ap (λ g. g.data_blocks) c.geometry in
        let cost_is = c.cost_is in
        let more_is = c.more_is target.name dirent in
        omega (arith, has_space, uses, none, same, cost_is, more_is)

    places : CanLinkRenamed c.tree_is moment target.number target.name number node.body slot
    places = record {
      enters = can_enter_at c.tree_is target.number c.directory c.is moment target.name dirent node.body
          (subst (λ g. IsShaped g.inodes (change c.directory)) (sym c.geometry)
          (shaped_entered tree.geometry.inodes moment target.name dirent node.body c.directory c.shaped soon c.few))
          enters enough_left;
      settles = λ n is.
          let one : Some node ≡ Some n =
          sym (elsewhere c.tree_is target.number number change apart_target ∙ c.node_is) ∙ is in
          let same : node ≡ n = cc in
          let goal = good.files target.number target.directory d.target_stands in
          subst (λ n. IsShaped (changed_at c.tree_is target.number change).geometry.inodes
          (moved moment target.number n)) same
          (subst (λ g. IsShaped g.inodes (moved moment target.number node))
          (sym (same_inodes c.tree_is target.number change ∙ c.geometry))
          (shaped_moved tree.geometry.inodes moment target.number node
          (sound_shape tree good number node named.stands) soon goal.least goal.most));
    }

    moves : CanMove tree moment source.number source.name target.number target.name number node.body
        (file_in tree target) slot
    moves = record {
      departs = (can_take tree good source.number source.directory d.source_stands source.name number node d.found
          moment soon).departs;
      apart = c.not_source;
      replaces = subst (λ s. CanReplace s moment target.number target.name number node.body (file_in tree target) slot)
          (sym left_is) (record {
            takes = c.takes;
            places = subst (λ s. CanLinkRenamed s moment target.number target.name number node.body slot) (sym c.made)
                places;
          });
    }

  pub can_move : adds (with_dirent target.name dirent target.directory.body) target.directory.body ≤ free tree
      → CanMove tree moment source.number source.name target.number target.name number node.body
      (file_in tree target) slot
  can_move has_space = moves has_space cleared
