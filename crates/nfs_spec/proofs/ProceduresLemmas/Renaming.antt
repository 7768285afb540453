-- A renaming keeps a sound tree sound.
use Rattle.std.proofs.Common.{◌≡◌, ◌≢◌, ◌⊎◌, inl, inr, ℕ, ◌+◌, ◌*◌, ◌<◌, ◌≤◌, sym, ap, subst, ◌∙◌}
use Rattle.std.proofs.Common.{refl, Bool, true, false, cond, not, ◌&&◌, List, length, nat_eq, nat_le, nat_lt}
use Rattle.std.proofs.Common.{Option, Some, None, arith}
use Rattle.std.proofs.lemmas.Bool.Decides.{nat_tests}
use Rattle.std.proofs.lemmas.List.Sums.{count_by-le-length}
use Rattle.std.specs.Cmp.{tied_itself}
use Rattle.std.specs.Cmp.Lexicographic.{nat_list_cmp_total, slice_cmp}
use Rattle.std.specs.FinMap.{get, get-remove}
use Rattle.std.specs.Option.{option_map}
use Rattle.std.specs.Ordering.{eq_by_cmp, is_eq, nat_cmp}
use Rattle.base.specs.declared.TheConstants.{MOST_LINKS, MOST_SPAN, ROOT, SLOTS_PER_BLOCK}
use Rattle.nfs_types.specs.declared.ctx.Ctx.{Ctx}
use Rattle.nfs_types.specs.declared.verifier.Verifier.{Verifier}
use Rattle.nfs_spec.specs.Model.Names.{ancestor, entries_of, is_directory, parent_of}
use Rattle.nfs_spec.specs.Model.Node.{Node, Body, DirentValue, Regular, Directory, Link}
use Rattle.nfs_spec.specs.Model.SetAttr.{given}
use Rattle.nfs_spec.specs.Model.Sound.{Sound, SoundBody, SoundCtx, SoundNode, SoundVerifier}
use Rattle.nfs_spec.specs.Model.Tree.{Tree, node_at, with_node}
use Rattle.nfs_spec.proofs.ProceduresLemmas.Tests.{differs, equal, unequal, yes_or_no}
use Rattle.nfs_spec.proofs.ProceduresLemmas.Adding.{names_in_of}
use Rattle.nfs_spec.proofs.ProceduresLemmas.TreeChanges.{NamedBy, Renames, named_is, passed}
use Rattle.nfs_spec.proofs.ProceduresLemmas.NameChanges.{FreeSlot, count_departed, dirent_before, least_is_free, named_in}
use Rattle.nfs_spec.proofs.ProceduresLemmas.NameChanges.{names_apart}
use Rattle.nfs_spec.proofs.ProceduresLemmas.NameChanges.{same_kind_departed, same_parent_departed, sound_name}
use Rattle.nfs_spec.proofs.ProceduresLemmas.Keeping as keeping
use Rattle.nfs_spec.proofs.ProceduresLemmas.Keeping.{moved_tree, reshaped}
use Rattle.nfs_spec.proofs.ProceduresLemmas.Lacking.{Change, Lacking, equal_or_not, none_lacks, of_sound, put_change}
use Rattle.nfs_spec.proofs.ProceduresLemmas.Lacking.{to_sound}
use Rattle.nfs_spec.proofs.ProceduresLemmas.Naming.{Unnamed, depart, enter, namer_is_parent, not_in_itself, not_root}
use Rattle.nfs_spec.proofs.ProceduresLemmas.Naming.{one_less}
use Rattle.nfs_spec.proofs.ProceduresLemmas.Naming.{one_of_itself, one_of_other, unname}
use Rattle.nfs_spec.proofs.ProceduresLemmas.Parts.{one_key}
use Rattle.nfs_spec.proofs.ProceduresLemmas.UsedWithin.{space_after}
use Rattle.nfs_spec.proofs.ProceduresLemmas.Soundness.{changed_is, few_links, links_of_directory, no_dirent, parent_links_is}
use Rattle.nfs_spec.proofs.ProceduresLemmas.Soundness.{same_geometry, with_two}
use Rattle.nfs_spec.proofs.ProceduresLemmas.Within.{never_reached}
use Rattle.nfs_spec.specs.Procedures.Changes.{changed_at, departed, entered, lacks_space, parent_links, unnamed}
use Rattle.nfs_spec.specs.Procedures.Changes.{with_dirent}
use Rattle.nfs_spec.specs.Procedures.Changes.{without_dirent, without_name}
use Rattle.nfs_spec.specs.Procedures.MkDir.{is_full}
use Rattle.nfs_spec.specs.Procedures.Places.{dirent_at}
use Rattle.nfs_spec.specs.Procedures.Rename.{Dentry, file_in, goes_below_itself, has_no_link, is_other_sort}
use Rattle.nfs_spec.specs.Procedures.Rename.{is_within, moved}
use Rattle.nfs_spec.specs.Procedures.Rename.{slot_for, with_parent}
use Rattle.nfs_spec.specs.Procedures.RmDir.{has_names, is_found_filled}

-- Directories by their entries.

pub body_slots : (body : Body) (name : List ℕ) (dirent : DirentValue) → SoundBody body
    → dirent_at body name ≡ Some dirent → dirent.slot < SLOTS_PER_BLOCK * MOST_SPAN
body_slots (Regular bytes mapped) name dirent good is = cc
body_slots (Directory named span parent) name dirent good is =
    let below = good.slots name dirent is in let blocks = good.blocks in omega (arith, below, blocks)
body_slots (Link target) name dirent good is = cc

pub body_distinct : (body : Body) (one other : List ℕ) (a b : DirentValue) → SoundBody body
    → dirent_at body one ≡ Some a → dirent_at body other ≡ Some b → a.slot ≡ b.slot → one ≡ other
body_distinct (Regular bytes mapped) one other a b good is has same = cc
body_distinct (Directory named span parent) one other a b good is has same =
    good.distinct one other a b is has same
body_distinct (Link target) one other a b good is has same = cc

absent_by : (b : Bool) (o : Option DirentValue) → b ≡ true → cond b None o ≡ None
absent_by true o e = refl
absent_by false o e = cc

preserved_by : (b : Bool) (o : Option DirentValue) → b ≡ false → cond b None o ≡ o
preserved_by true o e = cc
preserved_by false o e = refl

pub dirent_gone : (name : List ℕ) (body : Body) → dirent_at (without_dirent name body) name ≡ None
dirent_gone name (Regular bytes mapped) = refl
dirent_gone name (Directory named span parent) =
    get-remove nat_list_cmp_total named name name
    ∙ absent_by _ (get named name) (ap is_eq (tied_itself nat_list_cmp_total name))
dirent_gone name (Link target) = refl

-- another name leads where it led
dirent_preserved : (name other : List ℕ) (body : Body) → other ≢ name
    → dirent_at (without_dirent name body) other ≡ dirent_at body other
dirent_preserved name other (Regular bytes mapped) apart = refl
dirent_preserved name other (Directory named span parent) apart =
    get-remove nat_list_cmp_total named name other
    ∙ preserved_by _ (get named other) (not_tied (eq_by_cmp (slice_cmp nat_cmp) other name) refl)
  where
    not_tied : (b : Bool) → eq_by_cmp (slice_cmp nat_cmp) other name ≡ b → b ≡ false
    not_tied true e = absurd (apart (one_key names_apart other name e))
    not_tied false e = refl
dirent_preserved name other (Link target) apart = refl

-- Files in their new places.

same_entries : (parent : ℕ) (body : Body) → entries_of (with_parent parent body) ≡ entries_of body
same_entries parent (Regular bytes mapped) = refl
same_entries parent (Directory named span old) = refl
same_entries parent (Link target) = refl

same_kind : (parent : ℕ) (body : Body) → is_directory (with_parent parent body) ≡ is_directory body
same_kind parent (Regular bytes mapped) = refl
same_kind parent (Directory named span old) = refl
same_kind parent (Link target) = refl

new_parent : (parent : ℕ) (body : Body) → is_directory body ≡ true
    → parent_of (with_parent parent body) ≡ parent
new_parent parent (Regular bytes mapped) dir = cc
new_parent parent (Directory named span old) dir = refl
new_parent parent (Link target) dir = cc

no_parent : (parent : ℕ) (body : Body) → is_directory body ≡ false
    → parent_of (with_parent parent body) ≡ parent_of body
no_parent parent (Regular bytes mapped) other = refl
no_parent parent (Directory named span old) other = cc
no_parent parent (Link target) other = refl

sound_body : (parent : ℕ) (body : Body) → SoundBody body → SoundBody (with_parent parent body)
sound_body parent (Regular bytes mapped) good = good
sound_body parent (Directory named span old) good = good
sound_body parent (Link target) good = good

sound_verifier : (parent : ℕ) (body : Body) (verifier : Option Verifier) → SoundVerifier body verifier
    → SoundVerifier (with_parent parent body) verifier
sound_verifier parent (Regular bytes mapped) verifier good = good
sound_verifier parent (Directory named span old) verifier good = good
sound_verifier parent (Link target) verifier good = good

and_none : (a b : Bool) → (a && b) ≡ false → a ≡ true → b ≡ false
and_none true b e yes_a = e
and_none false b e yes_a = cc

third : (a b c : Bool) → (a && true && not b && c) ≡ false → a ≡ true → b ≡ false → c ≡ false
third true true c e is_a no_b = cc
third true false c e is_a no_b = e
third false b c e is_a no_b = cc

not_full : (directory : Node) → directory.nlink + 1 ≤ MOST_LINKS → is_full directory ≡ false
not_full directory few = small directory.nlink few
  where
    small : (n : ℕ) → n + 1 ≤ MOST_LINKS → nat_le MOST_LINKS n ≡ false
    small n h = grind (arith, nat_tests, h)

-- a directory with an entry has names in it
filled : (body : Body) (name : List ℕ) (dirent : DirentValue) → dirent_at body name ≡ Some dirent
    → has_names body ≡ false → ⊥
filled body name dirent is none =
    let sum = count_departed (λ e. true) name dirent body is in
    let most = count_by-le-length (λ e. true) (entries_of body) in
    let empty = not_some (length (entries_of body)) none in
    omega (arith, sum, most, empty)
  where
    not_some : (n : ℕ) → nat_lt 0 n ≡ false → n ≡ 0
    not_some n e = grind (arith, nat_tests, e)

-- what replaces a directory is one
same_sort : (node other : Node) → is_other_sort node (Some (0, other)) ≡ false
    → parent_links node.body ≡ parent_links other.body
same_sort node other = by (is_directory node.body) (is_directory other.body)
  where
    by : (a b : Bool) → cond a (not b) b ≡ false → ◌≡◌ {A = ℕ} (cond a 1 0) (cond b 1 0)
    by true true e = refl
    by true false e = cc
    by false true e = cc
    by false false e = refl

module _ (tree : Tree) (ctx : Ctx) (fits : Type 0) (next : Tree) (good : Sound tree) (now : SoundCtx ctx)
    (f : fits) (d : Renames tree ctx fits next) where
  abbrev source : Dentry
  source = d.source

  abbrev target : Dentry
  target = d.target

  abbrev number : ℕ
  number = d.file.0

  abbrev node : Node
  node = d.file.1

  abbrev base : Lacking tree none_lacks
  base = of_sound tree good

  named : NamedBy tree source.directory.body source.name d.file
  named = named_is tree source.directory source.name d.file d.found

  named_there : node_at tree named.dirent.number ≡ Some node
  named_there = ap (node_at tree) named.number_is ∙ named.stands

  abbrev less : Node
  less = departed ctx.moment source.name node.body source.directory

  abbrev left : Tree
  left = with_node tree source.number less

  abbrev lacking : ℕ → ℕ
  lacking = one_less none_lacks number

  left_lacks : Lacking left lacking
  left_lacks =
      subst (λ n. Lacking left (one_less none_lacks n)) named.number_is
      (depart tree none_lacks base source.number source.directory d.source_stands source.name named.dirent
      named.dirent_is node named_there refl ctx.moment now.moment)

  apart_source : number ≢ source.number
  apart_source same =
      not_in_itself tree none_lacks base source.number source.directory d.source_stands source.name named.dirent
      named.dirent_is node named_there refl (named.number_is ∙ same)

  no_root : number ≢ ROOT
  no_root same =
      not_root tree none_lacks base source.number source.directory d.source_stands source.name named.dirent
      named.dirent_is node named_there refl (named.number_is ∙ same)

  parent_is_source : is_directory node.body ≡ true → parent_of node.body ≡ source.number
  parent_is_source dir =
      namer_is_parent tree none_lacks base source.number source.directory d.source_stands source.name
      named.dirent
      named.dirent_is node named_there refl dir (λ same. no_root (sym named.number_is ∙ same))

  below_test : goes_below_itself tree (number, node) target.number ≡ false
  below_test = (passed (goes_below_itself tree (number, node) target.number) _ _ d.tested).0

  sort_test : is_other_sort node (file_in tree target) ≡ false
  sort_test =
      (passed (is_other_sort node (file_in tree target)) _ _
      (passed (goes_below_itself tree (number, node) target.number) _ _ d.tested).1).0

  empty_test : is_found_filled (file_in tree target) ≡ false
  empty_test =
      let below = passed (goes_below_itself tree (number, node) target.number) _ _ d.tested in
      let sort = passed (is_other_sort node (file_in tree target)) _ _ below.1 in
      (passed (is_found_filled (file_in tree target)) _ _ sort.1).0

  link_test : has_no_link node source.number (target.number, target.directory) (file_in tree target) ≡ false
  link_test =
      let below = passed (goes_below_itself tree (number, node) target.number) _ _ d.tested in
      let sort = passed (is_other_sort node (file_in tree target)) _ _ below.1 in
      let filled = passed (is_found_filled (file_in tree target)) _ _ sort.1 in
      (passed (has_no_link node source.number (target.number, target.directory) (file_in tree target)) _ _ filled.1).0

  number_is_some : 0 < number
  number_is_some = (good.files number node named.stands).least

  -- the target isn't below a directory that moves
  not_above : is_directory node.body ≡ true → (steps : ℕ) → ancestor tree steps target.number ≢ number
  not_above dir steps =
      never_reached tree good number target.number number_is_some
      (and_none (is_directory node.body) (is_within tree number target.number) below_test dir) steps

  apart_target : number ≢ target.number
  apart_target same =
      let one : Some node ≡ Some target.directory =
      sym named.stands ∙ ap (node_at tree) same ∙ d.target_stands in
      let node_is : node ≡ target.directory = cc in
      let dir : is_directory node.body ≡ true = ap (λ n. is_directory n.body) node_is ∙ d.placed.directory_is in
      not_above dir 0 (sym same)

  target_sound : SoundNode target.directory
  target_sound = (good.files target.number target.directory d.target_stands).itself

  source_sound : SoundNode source.directory
  source_sound = (good.files source.number source.directory d.source_stands).itself

  -- The target's directory once the name has left the source's.
  record Target : Type 0 where
    directory : Node
    is : node_at left target.number ≡ Some directory
    kind : is_directory directory.body ≡ true
    before : (name : List ℕ) (dirent : DirentValue) → dirent_at directory.body name ≡ Some dirent
        → dirent_at target.directory.body name ≡ Some dirent
    old_gone : target.number ≡ source.number → dirent_at directory.body source.name ≡ None
    kept : (dirent : DirentValue) → dirent_at target.directory.body target.name ≡ Some dirent
        → dirent.number ≢ number → dirent_at directory.body target.name ≡ Some dirent
    few : target.number ≡ source.number → 1 ≤ parent_links node.body → directory.nlink + 1 ≤ MOST_LINKS
    same_links : target.number ≢ source.number → directory ≡ target.directory

  few_by : 1 ≤ parent_links node.body → less.nlink + 1 ≤ MOST_LINKS
  few_by one = let small = source_sound.nlink in omega (arith, one, small)

  put_left : Change tree left source.number (Some source.directory) (Some less)
  put_left = put_change tree source.number (Some source.directory) less d.source_stands

  target_same : target.number ≡ source.number → Target
  target_same same =
      let one : Some target.directory ≡ Some source.directory =
      sym d.target_stands ∙ ap (node_at tree) same ∙ d.source_stands in
      let directory_is : target.directory ≡ source.directory = cc in
      let at : (name : List ℕ) → dirent_at target.directory.body name ≡ dirent_at source.directory.body name =
      λ name. ap (λ n. dirent_at n.body name) directory_is in
      record {
        directory = less;
        is = ap (node_at left) same ∙ put_left.here;
        kind = same_kind_departed source.name source.directory.body
            ∙ ap (λ n. is_directory n.body) (sym directory_is) ∙ d.placed.directory_is;
        before = λ name dirent is. at name ∙ dirent_before source.name name source.directory.body dirent is;
        old_gone = λ _. dirent_gone source.name source.directory.body;
        kept = λ dirent is other.
            dirent_preserved source.name target.name source.directory.body (λ same_name.
            let both : Some dirent ≡ Some named.dirent =
            sym is ∙ at target.name ∙ ap (dirent_at source.directory.body) same_name ∙ named.dirent_is in
            let dirent_is : dirent ≡ named.dirent = cc in
            other (ap (λ e. e.number) dirent_is ∙ named.number_is))
            ∙ sym (at target.name) ∙ is;
        few = λ _ one_link. few_by one_link;
        same_links = λ apart. absurd (apart same);
      }

  target_other : target.number ≢ source.number → Target
  target_other apart = record {
    directory = target.directory;
    is = put_left.there target.number apart ∙ d.target_stands;
    kind = d.placed.directory_is;
    before = λ name dirent is. is;
    old_gone = λ same. absurd (apart same);
    kept = λ dirent is other. is;
    few = λ same. absurd (apart same);
    same_links = λ _. refl;
  }

  on_target : Target
  on_target =
      elim (equal_or_not target.number source.number) [
        | inl same ↦ target_same same
        | inr apart ↦ target_other apart
      ]

  -- The tree once nothing stands in the way.
  record Cleared : Type 0 where
    tree_is : Tree
    made : without_name left ctx.moment target.number target.name (file_in tree target) ≡ tree_is
    lacks : Lacking tree_is lacking
    directory : Node
    is : node_at tree_is target.number ≡ Some directory
    kind : is_directory directory.body ≡ true
    before : (name : List ℕ) (dirent : DirentValue) → dirent_at directory.body name ≡ Some dirent
        → dirent_at target.directory.body name ≡ Some dirent
    old_gone : target.number ≡ source.number → dirent_at directory.body source.name ≡ None
    absent : dirent_at directory.body target.name ≡ None
    few : directory.nlink + parent_links node.body ≤ MOST_LINKS
    node_is : node_at tree_is number ≡ Some node
    ancestors : (steps : ℕ) → ancestor tree_is steps target.number ≡ ancestor tree steps target.number
    geometry : tree_is.geometry ≡ tree.geometry

  left_ancestors : (steps q : ℕ) → ancestor left steps q ≡ ancestor tree steps q
  left_ancestors steps q =
      keeping.ancestors tree left none_lacks lacking source.number source.directory less put_left base
      (same_kind_departed source.name source.directory.body)
      (same_parent_departed source.name source.directory.body) steps q

  node_in_left : node_at left number ≡ Some node
  node_in_left = put_left.there number apart_source ∙ named.stands

  none_at : (body : Body) (name : List ℕ) (o : Option DirentValue) → dirent_at body name ≡ o
      → ((dirent : DirentValue) → dirent_at body name ≡ Some dirent → ⊥) → o ≡ None
  none_at body name None is never = refl
  none_at body name (Some dirent) is never = absurd (never dirent is)

  space_for_link : file_in tree target ≡ None → target.number ≢ source.number → is_directory node.body ≡ true
      → is_full target.directory ≡ false
  space_for_link none apart dir =
      let test : has_no_link node source.number (target.number, target.directory) None ≡ false =
      ap (has_no_link node source.number (target.number, target.directory)) (sym none) ∙ link_test in
      third (is_directory node.body) (nat_eq source.number target.number) (is_full target.directory) test dir
      (unequal source.number target.number (λ same. apart (sym same)))

  few_in_left : (t : Target) → file_in tree target ≡ None
      → t.directory.nlink + parent_links node.body ≤ MOST_LINKS
  few_in_left t none =
      few_links (parent_links node.body) t.directory
      (left_lacks.files target.number t.directory t.is).itself.nlink (parent_links_is node.body) (λ one.
      elim (equal_or_not target.number source.number) [
        | inl same ↦ not_full t.directory (t.few same one)
        | inr apart ↦ ap is_full (t.same_links apart)
            ∙ space_for_link none apart (links_of_directory node.body one)
      ])

  -- nothing stands there
  nothing_there : (t : Target) → file_in tree target ≡ None → Cleared
  nothing_there t none = record {
    tree_is = left;
    made = ap (without_name left ctx.moment target.number target.name) none;
    lacks = left_lacks;
    directory = t.directory;
    is = t.is;
    kind = t.kind;
    before = t.before;
    old_gone = t.old_gone;
    absent = none_at t.directory.body target.name (dirent_at t.directory.body target.name) refl (λ dirent is.
        let there = t.before target.name dirent is in
        let absent = no_dirent tree good target.number target.directory d.target_stands target.name none in
        let never : None ≡ Some dirent = sym absent ∙ there in cc);
    few = few_in_left t none;
    node_is = node_in_left;
    ancestors = λ steps. left_ancestors steps target.number;
    geometry = refl;
  }

  -- a file stands there
  module _ (t : Target) (other : ℕ × Node) (there : file_in tree target ≡ Some other) where
    in_way : NamedBy tree target.directory.body target.name other
    in_way = named_is tree target.directory target.name other there

    other_apart : other.0 ≢ number
    other_apart =
        differs other.0 number (ap (λ o. given o (λ file. nat_eq file.0 number)) (sym there) ∙ d.apart)

    abbrev way : ℕ
    way = in_way.dirent.number

    way_apart : way ≢ number
    way_apart same = other_apart (sym in_way.number_is ∙ same)

    way_empty : is_directory other.1.body ≡ true → has_names other.1.body ≡ false
    way_empty dir = ap is_found_filled (sym there) ∙ empty_test

    way_stands : node_at tree way ≡ Some other.1
    way_stands = ap (node_at tree) in_way.number_is ∙ in_way.stands

    -- the source is a directory with a name in it
    way_not_source : way ≢ source.number
    way_not_source same =
        let one : Some other.1 ≡ Some source.directory =
        sym way_stands ∙ ap (node_at tree) same ∙ d.source_stands in
        let is : other.1 ≡ source.directory = cc in
        let dir = ap (λ n. is_directory n.body) is
        ∙ named_in source.directory.body source.name named.dirent named.dirent_is in
        let none = ap (λ n. has_names n.body) (sym is) ∙ way_empty dir in
        filled source.directory.body source.name named.dirent named.dirent_is none

    dirent_there : dirent_at t.directory.body target.name ≡ Some in_way.dirent
    dirent_there = t.kept in_way.dirent in_way.dirent_is way_apart

    way_in_left : node_at left way ≡ Some other.1
    way_in_left = put_left.there way way_not_source ∙ way_stands

    whole : lacking way ≡ 0
    whole = let none = one_of_other number way way_apart in omega (arith, none)

    abbrev lesser : Node
    lesser = departed ctx.moment target.name other.1.body t.directory

    abbrev parted : Tree
    parted = with_node left target.number lesser

    parted_lacks : Lacking parted (one_less lacking way)
    parted_lacks =
        depart left lacking left_lacks target.number t.directory t.is target.name in_way.dirent dirent_there
        other.1
        way_in_left whole ctx.moment now.moment

    way_not_target : way ≢ target.number
    way_not_target =
        not_in_itself left lacking left_lacks target.number t.directory t.is target.name in_way.dirent
        dirent_there
        other.1 way_in_left whole

    put_parted : Change left parted target.number (Some t.directory) (Some lesser)
    put_parted = put_change left target.number (Some t.directory) lesser t.is

    node_in_parted : node_at parted number ≡ Some node
    node_in_parted = put_parted.there number apart_target ∙ node_in_left

    no_orphan : (q : ℕ) (file : Node) → node_at parted q ≡ Some file → is_directory file.body ≡ true → q ≢ way
        → one_less lacking way q ≡ 1 → parent_of file.body ≢ way
    no_orphan q file is dir apart lacks_one same =
        elim (equal_or_not q number) [
          | inl moves ↦
              let one : Some file ≡ Some node = sym is ∙ ap (node_at parted) moves ∙ node_in_parted in
              let file_is : file ≡ node = cc in
              way_not_source (sym same ∙ ap (λ n. parent_of n.body) file_is
              ∙ parent_is_source (ap (λ n. is_directory n.body) (sym file_is) ∙ dir))
          | inr stays ↦
              let none = one_of_other number q stays in
              let none_too = one_of_other way q apart in
              absurd (omega (arith, none, none_too, lacks_one))
        ]

    cleared_by : Unnamed parted (unnamed parted ctx.moment way other.1) lacking way
    cleared_by =
        unname parted (one_less lacking way) lacking parted_lacks way other.1
        (put_parted.there way way_not_target ∙ way_in_left)
        (let one = one_of_itself way in let none = whole in omega (arith, one, none)) whole
        (λ q apart. let none = one_of_other way q apart in omega (arith, none)) way_empty no_orphan ctx.moment
        now.moment

    parted_ancestors : (steps q : ℕ) → ancestor parted steps q ≡ ancestor left steps q
    parted_ancestors steps q =
        keeping.ancestors left parted lacking (one_less lacking way) target.number t.directory lesser put_parted
        left_lacks (same_kind_departed target.name t.directory.body)
        (same_parent_departed target.name t.directory.body) steps q

    few_lesser : lesser.nlink + parent_links node.body ≤ MOST_LINKS
    few_lesser =
        let small = (left_lacks.files target.number t.directory t.is).itself.nlink in
        let one = parent_links_is node.body in
        let same = same_sort node other.1 (ap (is_other_sort node) (sym there) ∙ sort_test) in
        omega (arith, small, one, same)

    file_in_way : Cleared
    file_in_way = record {
      tree_is = unnamed parted ctx.moment way other.1;
      made = ap (without_name left ctx.moment target.number target.name) there
          ∙ ap (λ s. unnamed s ctx.moment other.0 other.1)
          (changed_is left target.number (departed ctx.moment target.name other.1.body) t.directory t.is)
          ∙ ap (λ n. unnamed parted ctx.moment n other.1) (sym in_way.number_is);
      lacks = cleared_by.tree_is;
      directory = lesser;
      is = cleared_by.there target.number (λ same. way_not_target (sym same)) ∙ put_parted.here;
      kind = same_kind_departed target.name t.directory.body ∙ t.kind;
      before = λ name dirent is. t.before name dirent (dirent_before target.name name t.directory.body dirent is);
      old_gone = λ same. none_at lesser.body source.name (dirent_at lesser.body source.name) refl (λ dirent is.
          let was = dirent_before target.name source.name t.directory.body dirent is in
          let never : None ≡ Some dirent = sym (t.old_gone same) ∙ was in cc);
      absent = dirent_gone target.name t.directory.body;
      few = few_lesser;
      node_is = cleared_by.there number (λ same. way_apart (sym same)) ∙ node_in_parted;
      ancestors = λ steps. cleared_by.ancestors steps target.number (λ same. way_not_target (sym same))
          ∙ parted_ancestors steps target.number ∙ left_ancestors steps target.number;
      geometry = same_geometry parted ctx.moment way other.1;
    }

  cleared_of : (found : Option (ℕ × Node)) → file_in tree target ≡ found → Cleared
  cleared_of None none = nothing_there on_target none
  cleared_of (Some other) there = file_in_way on_target other there

  cleared : Cleared
  cleared = cleared_of (file_in tree target) refl

  -- The slot of the new name.

  record Slot : Type 0 where
    small : d.dirent.slot < SLOTS_PER_BLOCK * MOST_SPAN
    taken : (name : List ℕ) (dirent : DirentValue) → dirent_at target.directory.body name ≡ Some dirent
        → dirent.slot ≡ d.dirent.slot
        → (name ≡ target.name) ⊎ ((target.number ≡ source.number) × (name ≡ source.name))

  slot_within : (dirent : Option DirentValue) → dirent_at source.directory.body source.name ≡ dirent
      → target.number ≡ source.number → option_map (λ e. e.slot) dirent ≡ Some d.dirent.slot → Slot
  slot_within None is same slot = cc
  slot_within (Some dirent) is same slot =
      let slot_is : dirent.slot ≡ d.dirent.slot = cc in
      let one : Some target.directory ≡ Some source.directory =
      sym d.target_stands ∙ ap (node_at tree) same ∙ d.source_stands in
      let directory_is : target.directory ≡ source.directory = cc in
      let small = body_slots source.directory.body source.name dirent source_sound.body is in
      record {
        small = omega (arith, slot_is, small);
        taken = λ name other has same_slot.
            inr (
              same,
              body_distinct source.directory.body name source.name other dirent source_sound.body
                  (ap (λ n. dirent_at n.body name) (sym directory_is) ∙ has) is (same_slot ∙ sym slot_is),
            );
      }

  slot_by : (within : Bool) (old replaced : Option DirentValue) → nat_eq source.number target.number ≡ within
      → dirent_at source.directory.body source.name ≡ old → dirent_at target.directory.body target.name ≡ replaced
      → slot_for within old replaced target.directory.body ≡ Some d.dirent.slot → Slot
  slot_by within old (Some dirent) same is has slot =
      let slot_is : dirent.slot ≡ d.dirent.slot = cc in
      let small = body_slots target.directory.body target.name dirent target_sound.body has in
      record {
        small = omega (arith, slot_is, small);
        taken = λ name other there same_slot.
            inl (body_distinct target.directory.body name target.name other dirent target_sound.body there has
            (same_slot ∙ sym slot_is));
      }
  slot_by true old None same is has slot =
      slot_within old is (sym (equal source.number target.number same)) slot
  slot_by false old None same is has slot =
      let free = least_is_free target.directory.body d.dirent.slot slot in
      record {
        small = free.1;
        taken = λ name other there same_slot. absurd (free.0 name other there same_slot);
      }

  slot_is : Slot
  slot_is =
      slot_by (nat_eq source.number target.number) (dirent_at source.directory.body source.name)
      (dirent_at target.directory.body target.name) refl refl refl d.slot

  free_in : (c : Cleared) → FreeSlot c.directory.body d.dirent.slot
  free_in c name dirent is same_slot =
      elim (slot_is.taken name dirent (c.before name dirent is) same_slot) [
        | inl same_name ↦
            let there = ap (dirent_at c.directory.body) (sym same_name) ∙ is in
            let never : None ≡ Some dirent = sym c.absent ∙ there in cc
        | inr within ↦
            let there = ap (dirent_at c.directory.body) (sym within.1) ∙ is in
            let never : None ≡ Some dirent = sym (c.old_gone within.0) ∙ there in cc
      ]

  -- The file in its new place.

  abbrev placed_node : Node
  placed_node = moved ctx.moment target.number node

  placed_sound : SoundNode placed_node
  placed_sound =
      let old = (good.files number node named.stands).itself in
      record {
        mode = old.mode;
        uid = old.uid;
        gid = old.gid;
        nlink = old.nlink;
        atime = old.atime;
        mtime = old.mtime;
        ctime = now.moment;
        stamp = old.stamp;
        verifier = sound_verifier target.number node.body node.verifier old.verifier;
        body = sound_body target.number node.body old.body;
      }

  module _ (c : Cleared) where
    abbrev placed_tree : Tree
    placed_tree = with_node c.tree_is number placed_node

    put_placed : Change c.tree_is placed_tree number (Some node) (Some placed_node)
    put_placed = put_change c.tree_is number (Some node) placed_node c.node_is

    lacks_its_name : lacking number ≡ 1
    lacks_its_name = let one = one_of_itself number in omega (arith, one)

    placed_other : is_directory node.body ≡ false → Lacking placed_tree lacking
    placed_other other =
        reshaped c.tree_is placed_tree lacking lacking number node placed_node put_placed c.lacks (record {
          itself = placed_sound;
          entries_are = same_entries target.number node.body;
          directory = same_kind target.number node.body;
          parent = no_parent target.number node.body other;
          stamp = refl;
          links = λ dir. refl;
          whole = λ dir. refl;
          names = λ _. refl;
          named = λ _. ((c.lacks.files number node c.node_is).links other).named;
          others = λ q apart. refl;
        })

    placed_directory : is_directory node.body ≡ true → Lacking placed_tree lacking
    placed_directory dir =
        let child = ((c.lacks.files number node c.node_is).directory dir).child no_root in
        let once = child.once in
        let lacks_one = lacks_its_name in
        let less_names = names_in_of c.tree_is target.number number c.directory c.is in
        moved_tree c.tree_is placed_tree lacking number target.number node placed_node put_placed c.lacks
        (record {
          itself = placed_sound;
          not_root = no_root;
          entries_are = same_entries target.number node.body;
          was_directory = dir;
          directory = same_kind target.number node.body ∙ dir;
          links = refl;
          parent_is = new_parent target.number node.body dir;
          node = c.directory;
          node_is = c.is;
          by_parent = omega (arith, once, lacks_one, less_names);
          apart = λ steps there. not_above dir steps (sym (c.ancestors steps) ∙ there);
          reached = ((c.lacks.files target.number c.directory c.is).directory c.kind).reached;
        })

    placed_lacks : Lacking placed_tree lacking
    placed_lacks =
        elim (yes_or_no (is_directory node.body)) [
          | inl dir ↦ placed_directory dir
          | inr other ↦ placed_other other
        ]

    abbrev entered_directory : Node
    entered_directory = entered ctx.moment target.name d.dirent node.body c.directory

    abbrev last_tree : Tree
    last_tree = with_node placed_tree target.number entered_directory

    same_links_placed : parent_links placed_node.body ≡ parent_links node.body
    same_links_placed = ap (λ b. cond b 1 0) (same_kind target.number node.body)

    -- the new name counts for what moved as for what it was
    same_entered : entered ctx.moment target.name d.dirent placed_node.body c.directory ≡ entered_directory
    same_entered = λ i. record c.directory {
      nlink = c.directory.nlink + same_links_placed i;
      mtime = ctx.moment;
      ctime = ctx.moment;
      body = with_dirent target.name d.dirent c.directory.body;
    }

    last_lacks : Lacking last_tree none_lacks
    last_lacks =
        let links = same_links_placed in
        let few = c.few in
        subst (λ n. Lacking (with_node placed_tree target.number n) none_lacks) same_entered
        (enter placed_tree lacking none_lacks placed_lacks target.number c.directory
        (put_placed.there target.number (λ same. apart_target (sym same)) ∙ c.is) c.kind target.name d.dirent
        c.absent placed_node (ap (node_at placed_tree) d.number_is ∙ put_placed.here)
        (sound_name target.directory target.name d.placed (d.name_bounds f)) slot_is.small
        (free_in c) ctx.moment
        now.moment (omega (arith, links, few))
        (λ dir. new_parent target.number node.body (sym (same_kind target.number node.body) ∙ dir))
        (λ q. ap (λ n. one_less none_lacks n q) (sym d.number_is)))

    abbrev change : Node → Node
    change = entered ctx.moment target.name d.dirent node.body

    leads_to_last : next ≡ last_tree
    leads_to_last =
        let named_first = put_change c.tree_is target.number (Some c.directory) entered_directory c.is in
        d.leads
        ∙ ap (λ s. changed_at (changed_at (without_name s ctx.moment target.number target.name
        (file_in tree target))
        target.number change) number (moved ctx.moment target.number))
        (changed_is tree source.number (departed ctx.moment source.name node.body) source.directory
        d.source_stands)
        ∙ ap (λ s. changed_at (changed_at s target.number change) number
        (moved ctx.moment target.number)) c.made
        ∙ ap (λ s. changed_at s number (moved ctx.moment target.number))
        (changed_is c.tree_is target.number change c.directory c.is)
        ∙ changed_is (with_node c.tree_is target.number entered_directory) number
        (moved ctx.moment target.number) node
        (named_first.there number apart_target ∙ c.node_is)
        ∙ with_two c.tree_is target.number number entered_directory placed_node (λ same. apart_target
        (sym same))

    sound_by : Sound next
    sound_by =
        let blocks : last_tree.geometry.data_blocks ≡ tree.geometry.data_blocks =
        ap (λ g. g.data_blocks) c.geometry in
        let has_space = space_after tree last_tree good.has_space
        (subst (λ t. lacks_space tree t ≡ false) leads_to_last d.has_space) in
        subst Sound (sym leads_to_last) (to_sound last_tree last_lacks (omega (arith, blocks, has_space)))

  -- A renaming keeps the tree sound.
  pub rename_sound : Sound next
  rename_sound = sound_by cleared
