-- The changes of names in the middle of a step: a directory loses a name, a file that lost one is gone or has
-- a link less, and a directory gets a name for a file that lacks one.
use Rattle.std.proofs.Common.{◌≡◌, ◌≢◌, inl, inr, ℕ, zero, suc, ◌+◌, ◌-◌, ◌*◌, ◌<◌, ◌≤◌, sym, ap}
use Rattle.std.proofs.Common.{◌∙◌, refl, Bool, true, false, cond, not, ◌||◌, List, [], ◌∷◌, length, nat_eq}
use Rattle.std.proofs.Common.{nat_le, nat_lt, Some, None, is_some, All, IsSome, count_by, arith}
use Rattle.std.proofs.lemmas.Bool.Decides.{nat_tests}
use Rattle.std.specs.Cmp.{nat_cmp_total}
use Rattle.std.specs.FinMap.{nat_cmp-IsAntisymmetric}
use Rattle.base.specs.declared.TheConstants.{MOST_LINKS, MOST_SPAN, ROOT, SLOTS_PER_BLOCK}
use Rattle.nfs_types.specs.declared.ctx.Moment.{Moment}
use Rattle.nfs_spec.specs.Model.Cost.{cost}
use Rattle.nfs_spec.specs.Model.Names.{ancestor, child_directories, entries_of, is_directory, is_directory_at}
use Rattle.nfs_spec.specs.Model.Names.{names_in}
use Rattle.nfs_spec.specs.Model.Names.{names_of, parent_in, parent_of}
use Rattle.nfs_spec.specs.Model.Node.{Node, Body, DirentValue, Regular, Directory, Link}
use Rattle.nfs_spec.specs.Model.Sound.{SoundName, SoundTime}
use Rattle.nfs_spec.specs.Model.Tree.{Tree, node_at, used, with_node}
use Rattle.nfs_spec.proofs.ProceduresLemmas.Tests.{at_most_one, equal, neither, not_within, one_or_none, passes, yes_or_no}
use Rattle.nfs_spec.proofs.ProceduresLemmas.Adding as adding
use Rattle.nfs_spec.proofs.ProceduresLemmas.Adding.{gone, names_in_of}
use Rattle.nfs_spec.proofs.ProceduresLemmas.NameChanges.{FreeSlot, count_departed, count_entered, named_in, node_departed}
use Rattle.nfs_spec.proofs.ProceduresLemmas.NameChanges.{node_entered, same_kind_departed, same_kind_entered}
use Rattle.nfs_spec.proofs.ProceduresLemmas.NameChanges.{same_parent_departed}
use Rattle.nfs_spec.proofs.ProceduresLemmas.NameChanges.{same_parent_entered}
use Rattle.nfs_spec.proofs.ProceduresLemmas.Keeping as keeping
use Rattle.nfs_spec.proofs.ProceduresLemmas.Keeping.{names_in_none, reentered, reshaped}
use Rattle.nfs_spec.proofs.ProceduresLemmas.Lacking.{Lacking, Reached, equal_or_not, gone_change, put_change}
use Rattle.nfs_spec.proofs.ProceduresLemmas.Parts.{each_fails, part, sum_none, sum_remove}
use Rattle.nfs_spec.specs.Procedures.Changes.{departed, entered, is_last_name, parent_links, unnamed}
use Rattle.nfs_spec.specs.Procedures.Changes.{without_node}
use Rattle.nfs_spec.specs.Procedures.Places.{dirent_at}
use Rattle.nfs_spec.specs.Procedures.RmDir.{has_names}

-- one, of one number
abbrev pub one_of : ℕ → ℕ → ℕ
one_of number q = cond (nat_eq number q) 1 0

-- what files lack where one more name is gone
abbrev pub one_less : (ℕ → ℕ) → ℕ → ℕ → ℕ
one_less lacks number q = lacks q + one_of number q

pub one_of_itself : (number : ℕ) → one_of number number ≡ 1
one_of_itself number = let is : nat_eq number number ≡ true =
    grind (arith, nat_tests) in ap (λ b. cond b 1 0) is

pub one_of_other : (number q : ℕ) → q ≢ number → one_of number q ≡ 0
one_of_other number q apart =
    elim (yes_or_no (nat_eq number q)) [
      | inl is ↦ absurd (apart (sym (equal number q is)))
      | inr fails ↦ ap (λ b. cond b 1 0) fails
    ]

-- names in two files are among all
pub two_names : (tree : Tree) (p r q : ℕ) (a b : Node) → p ≢ r → node_at tree p ≡ Some a
    → node_at tree r ≡ Some b
    → names_in q a.body + names_in q b.body ≤ names_of tree q
two_names tree p r q a b apart a_is b_is =
    let first = sum_remove nat_cmp_total nat_cmp-IsAntisymmetric (λ e. names_in q e.1.body) tree.nodes p in
    let a_counts = ap (part (λ e. names_in q e.1.body) p) a_is in
    let change = gone_change tree p (Some a) a_is in
    let rest = names_in_of (without_node tree p) r q b (change.there r (λ same. apart (sym same)) ∙ b_is) in
    omega (arith, first, a_counts, rest)

-- each entry names a file, by a count of those that don't
pub unfounded : Tree → List ℕ × DirentValue → Bool
unfounded tree dirent = not (is_some (node_at tree dirent.1.number))

no_unfounded : (tree : Tree) (xs : List (List ℕ × DirentValue))
    → All (λ dirent. IsSome (node_at tree dirent.1.number)) xs → count_by (unfounded tree) xs ≡ 0
unfolding unfounded
no_unfounded tree xs all =
    sum_none (λ e. cond (unfounded tree e) 1 0) xs (λ index d inside.
    ap (λ b. cond (not b) 1 0) (all index d inside))

all_founded : (tree : Tree) (xs : List (List ℕ × DirentValue)) → count_by (unfounded tree) xs ≡ 0
    → All (λ dirent. IsSome (node_at tree dirent.1.number)) xs
unfolding unfounded
all_founded tree xs none index d inside = passes _ (each_fails (unfounded tree) xs none index d inside)

-- an entry of a directory names a file
pub dirent_stands : (tree : Tree) (lacks : ℕ → ℕ) → Lacking tree lacks → (at : ℕ) (directory : Node)
    → node_at tree at ≡ Some directory → (name : List ℕ) (dirent : DirentValue)
    → dirent_at directory.body name ≡ Some dirent → is_some (node_at tree dirent.number) ≡ true
unfolding unfounded
dirent_stands tree lacks good at directory stands name dirent is =
    let none = no_unfounded tree (entries_of directory.body) (good.files at directory stands).names in
    let sum = count_departed (unfounded tree) name dirent directory.body is in
    passes _ (one_or_none (unfounded tree (name, dirent)) (omega (arith, none, sum)))

module _ (tree : Tree) (lacks : ℕ → ℕ) (good : Lacking tree lacks) (at : ℕ) (directory : Node)
    (stands : node_at tree at ≡ Some directory) (name : List ℕ) (dirent : DirentValue)
    (dirent_is : dirent_at directory.body name ≡ Some dirent) (file : Node)
    (file_stands : node_at tree dirent.number ≡ Some file) (whole : lacks dirent.number ≡ 0) where
  -- the directory names the file
  names_it : 1 ≤ names_in dirent.number directory.body
  names_it =
      let sum = count_departed (λ e. nat_eq e.1.number dirent.number) name dirent directory.body dirent_is in
      let one = one_of_itself dirent.number in
      omega (arith, sum, one)

  -- what names a directory is its parent
  pub namer_is_parent : is_directory file.body ≡ true → dirent.number ≢ ROOT → parent_of file.body ≡ at
  namer_is_parent dir other =
      let child = ((good.files dirent.number file file_stands).directory dir).child other in
      elim (equal_or_not (parent_of file.body) at) [
        | inl same ↦ same
        | inr apart ↦
            let both = two_names tree (parent_of file.body) at dirent.number child.parent directory apart
            child.parent_is stands in
            let one = child.by_parent in
            let once = child.once in
            let mine = names_it in
            absurd (omega (arith, both, one, once, mine, whole))
      ]

  pub not_root : dirent.number ≢ ROOT
  not_root same =
      let is_root : Some file ≡ Some good.root = sym file_stands ∙ ap (node_at tree) same ∙ good.root_is in
      let file_is : file ≡ good.root = cc in
      let dir = ap (λ n. is_directory n.body) file_is ∙ good.root_directory in
      let none = (((good.files dirent.number file file_stands).directory dir).root same).unnamed in
      let mine = names_it in
      let all = names_in_of tree at dirent.number directory stands in
      let names = ap (names_of tree) same in
      omega (arith, none, mine, all, names)

  stays_itself : (steps : ℕ) → parent_in (node_at tree dirent.number) ≡ dirent.number
      → ancestor tree steps dirent.number ≡ dirent.number
  stays_itself zero own = refl
  stays_itself (suc steps) own = ap (ancestor tree steps) own ∙ stays_itself steps own

  comes_to_root : Reached tree dirent.number → parent_in (node_at tree dirent.number) ≡ dirent.number
      → dirent.number ≡ ROOT
  comes_to_root to own = sym (stays_itself to.0 own) ∙ to.1

  -- no directory names itself
  pub not_in_itself : dirent.number ≢ at
  not_in_itself same =
      let one : Some file ≡ Some directory = sym file_stands ∙ ap (node_at tree) same ∙ stands in
      let file_is : file ≡ directory = cc in
      let dir : is_directory file.body ≡ true =
      ap (λ n. is_directory n.body) file_is ∙ named_in directory.body name dirent dirent_is in
      let parent : parent_of file.body ≡ dirent.number = namer_is_parent dir not_root ∙ sym same in
      let own : parent_in (node_at tree dirent.number) ≡ dirent.number =
      ◌∙◌ {b = parent_of file.body} (ap parent_in file_stands) parent in
      not_root (comes_to_root ((good.files dirent.number file file_stands).directory dir).reached own)

  module _ (moment : Moment) (now : SoundTime moment) where
    abbrev less : Node
    less = departed moment name file.body directory

    fewer_children : child_directories tree less.body + parent_links file.body
        ≡ child_directories tree directory.body
    fewer_children =
        let sum = count_departed (λ e. is_directory_at (node_at tree e.1.number)) name dirent directory.body
        dirent_is in
        let kind : parent_links file.body ≡ cond (is_directory_at (node_at tree dirent.number)) 1 0 =
        ap (λ o. cond (is_directory_at o) 1 0) (sym file_stands) in
        omega (arith, sum, kind)

    was_directory : is_directory directory.body ≡ true
    was_directory = named_in directory.body name dirent dirent_is

    only_child : (q : ℕ) (node : Node) → node_at tree q ≡ Some node → is_directory node.body ≡ true → q ≢ ROOT
        → parent_of node.body ≢ at → one_less lacks dirent.number q ≡ lacks q
    only_child q node is dir other apart =
        elim (equal_or_not q dirent.number) [
          | inl same ↦
              let one : Some node ≡ Some file = sym is ∙ ap (node_at tree) same ∙ file_stands in
              let node_is : node ≡ file = cc in
              absurd (apart (ap (λ n. parent_of n.body) node_is
              ∙ namer_is_parent (ap (λ n. is_directory n.body) (sym node_is) ∙ dir) not_root))
          | inr no_other ↦ let none = one_of_other dirent.number q no_other in omega (arith, none)
        ]

    small_links : parent_links file.body ≤ 1
    small_links = at_most_one (is_directory file.body)

    -- A directory loses the name of a file, which lacks it then.
    pub depart : Lacking (with_node tree at less) (one_less lacks dirent.number)
    depart =
        let mine = good.files at directory stands in
        reentered tree (with_node tree at less) lacks (one_less lacks dirent.number) at directory less
        (put_change tree at (Some directory) less stands) good (record {
          itself = node_departed moment name file.body directory mine.itself now;
          was_directory = was_directory;
          directory = same_kind_departed name directory.body ∙ was_directory;
          parent = same_parent_departed name directory.body;
          stamp = refl;
          stand =
              let none = no_unfounded tree (entries_of directory.body) mine.names in
              let sum = count_departed (unfounded tree) name dirent directory.body dirent_is in
              all_founded tree (entries_of less.body) (omega (arith, none, sum));
          names = λ q.
              let sum = count_departed (λ e. nat_eq e.1.number q) name dirent directory.body dirent_is in
              omega (arith, sum);
          links =
              let children = fewer_children in
              let counted = (mine.directory was_directory).counted in
              let small = small_links in
              omega (arith, children, counted, small);
          children = only_child;
        })

module _ (tree : Tree) (lacks after : ℕ → ℕ) (good : Lacking tree lacks) (at : ℕ) (directory : Node)
    (stands : node_at tree at ≡ Some directory) (kind : is_directory directory.body ≡ true) (name : List ℕ)
    (dirent : DirentValue) (absent : dirent_at directory.body name ≡ None) (file : Node)
    (file_stands : node_at tree dirent.number ≡ Some file) (lawful : SoundName name)
    (slot : dirent.slot < SLOTS_PER_BLOCK * MOST_SPAN) (free : FreeSlot directory.body dirent.slot)
    (moment : Moment) (now : SoundTime moment)
    (few : directory.nlink + parent_links file.body ≤ MOST_LINKS)
    (parent : is_directory file.body ≡ true → parent_of file.body ≡ at)
    (fills : (q : ℕ) → lacks q ≡ one_less after dirent.number q) where
  abbrev more : Node
  more = entered moment name dirent file.body directory

  more_children : child_directories tree more.body ≡ child_directories tree directory.body + parent_links
      file.body
  more_children =
      let sum = count_entered (λ e. is_directory_at (node_at tree e.1.number)) name dirent directory.body kind
      absent in
      let links : parent_links file.body ≡ cond (is_directory_at (node_at tree dirent.number)) 1 0 =
      ap (λ o. cond (is_directory_at o) 1 0) (sym file_stands) in
      omega (arith, sum, links)

  filled_child : (q : ℕ) (node : Node) → node_at tree q ≡ Some node → is_directory node.body ≡ true → q ≢ ROOT
      → parent_of node.body ≢ at → after q ≡ lacks q
  filled_child q node is dir other apart =
      elim (equal_or_not q dirent.number) [
        | inl same ↦
            let one : Some node ≡ Some file = sym is ∙ ap (node_at tree) same ∙ file_stands in
            let node_is : node ≡ file = cc in
            absurd (apart (ap (λ n. parent_of n.body) node_is
            ∙ parent (ap (λ n. is_directory n.body) (sym node_is) ∙ dir)))
        | inr no_other ↦
            let none = one_of_other dirent.number q no_other in
            let filled = fills q in
            omega (arith, none, filled)
      ]

  is_founded : ◌≡◌ {A = ℕ} (cond (unfounded tree (name, dirent)) 1 0) 0
  unfolding unfounded
  is_founded = ap (λ o. cond (not (is_some o)) 1 0) file_stands

  -- A directory gets a name for a file that lacks one.
  pub enter : Lacking (with_node tree at more) after
  enter =
      let mine = good.files at directory stands in
      reentered tree (with_node tree at more) lacks after at directory more
      (put_change tree at (Some directory) more stands) good (record {
        itself = node_entered moment name dirent file.body directory mine.itself now lawful slot free few;
        was_directory = kind;
        directory = same_kind_entered name dirent directory.body ∙ kind;
        parent = same_parent_entered name dirent directory.body;
        stamp = refl;
        stand =
            let none = no_unfounded tree (entries_of directory.body) mine.names in
            let sum = count_entered (unfounded tree) name dirent directory.body kind absent in
            let founded = is_founded in
            all_founded tree (entries_of more.body) (omega (arith, none, sum, founded));
        names = λ q.
            let sum = count_entered (λ e. nat_eq e.1.number q) name dirent directory.body kind absent in
            let filled = fills q in
            omega (arith, sum, filled);
        links = let children = more_children in omega (arith, children);
        children = filled_child;
      })

no_entries : (body : Body) → is_directory body ≡ false → entries_of body ≡ []
no_entries (Regular bytes mapped) other = refl
no_entries (Directory named span parent) other = cc
no_entries (Link target) other = refl

none_of : {A : Type 0} (xs : List A) → nat_lt 0 (length xs) ≡ false → xs ≡ []
none_of [] e = refl
none_of (x ∷ xs) e = absurd (grind (arith, nat_tests, e))

-- what becomes of a tree where a file loses one of its links, or is gone
pub record Unnamed (tree next : Tree) (after : ℕ → ℕ) (number : ℕ) : Type 0 where
  pub tree_is : Lacking next after
  pub there : (q : ℕ) → q ≢ number → node_at next q ≡ node_at tree q
  pub ancestors : (steps q : ℕ) → q ≢ number → ancestor next steps q ≡ ancestor tree steps q
  pub has_space : used next ≤ used tree

module _ (tree : Tree) (lacks after : ℕ → ℕ) (good : Lacking tree lacks) (number : ℕ) (file : Node)
    (stands : node_at tree number ≡ Some file) (lacks_one : lacks number ≡ 1) (whole : after number ≡ 0)
    (others : (q : ℕ) → q ≢ number → after q ≡ lacks q)
    (empty : is_directory file.body ≡ true → has_names file.body ≡ false)
    (orphans : (q : ℕ) (node : Node) → node_at tree q ≡ Some node → is_directory node.body ≡ true → q ≢ number
    → lacks q ≡ 1 → parent_of node.body ≢ number)
    (moment : Moment) (now : SoundTime moment) where
  abbrev fewer : Node
  fewer = record file { nlink = file.nlink - 1; ctime = moment }

  no_root : number ≢ ROOT
  no_root same =
      let is_root : Some file ≡ Some good.root = sym stands ∙ ap (node_at tree) same ∙ good.root_is in
      let file_is : file ≡ good.root = cc in
      let dir = ap (λ n. is_directory n.body) file_is ∙ good.root_directory in
      let none = (((good.files number file stands).directory dir).root same).unnamed in
      let lack = ap lacks same in
      omega (arith, none, lack, lacks_one)

  nothing_in_it : entries_of file.body ≡ []
  nothing_in_it =
      elim (yes_or_no (is_directory file.body)) [
        | inl dir ↦ none_of (entries_of file.body) (empty dir)
        | inr other ↦ no_entries file.body other
      ]

  last_by : is_last_name file ≡ true → names_of tree number ≡ 0
  last_by last =
      elim (yes_or_no (is_directory file.body)) [
        | inl dir ↦
            let once = (((good.files number file stands).directory dir).child no_root).once in
            omega (arith, once, lacks_one)
        | inr other ↦
            let one = links_one other in
            let counted = ((good.files number file stands).links other).counted in
            omega (arith, one, counted, lacks_one)
      ]
    where
      links_one : is_directory file.body ≡ false → file.nlink ≤ 1
      links_one other =
          let few : nat_le file.nlink 1 ≡ true = sym (ap (λ b. b || nat_le file.nlink 1) other) ∙ last in
          grind (arith, nat_tests, few)

  gone_tree : is_last_name file ≡ true → Unnamed tree (without_node tree number) after number
  gone_tree last =
      let change = gone_change tree number (Some file) stands in
      let mine = good.files number file stands in
      record {
        tree_is = gone tree (without_node tree number) lacks after number file change good (record {
          not_root = no_root;
          empty = nothing_in_it;
          unnamed = last_by last;
          others = others;
          orphans = orphans;
        });
        there = change.there;
        ancestors = adding.ancestors tree (without_node tree number) lacks after number
            (Some file) None change good
            (last_by last) others (λ q. names_in_none q file.body nothing_in_it) (λ q. refl)
            (adding.no_child_of tree (without_node tree number) lacks after number file change good (record {
              not_root = no_root;
              empty = nothing_in_it;
              unnamed = last_by last;
              others = others;
              orphans = orphans;
            })) mine.least;
        has_space = let sum = change.sums (λ dirent. cost dirent.1.body) in omega (arith, sum);
      }

  fewer_tree : is_last_name file ≡ false → Unnamed tree (with_node tree number fewer) after number
  fewer_tree more =
      let change = put_change tree number (Some file) fewer stands in
      let mine = (good.files number file stands).itself in
      let parts = neither _ _ more in
      let many = parts.1 in
      let big = not_within file.nlink 1 many in
      record {
        tree_is = reshaped tree (with_node tree number fewer) lacks after number file fewer change good
            (record {
              itself = record {
                mode = mine.mode;
                uid = mine.uid;
                gid = mine.gid;
                nlink = let few = mine.nlink in omega (arith, few);
                atime = mine.atime;
                mtime = mine.mtime;
                ctime = now;
                stamp = mine.stamp;
                verifier = mine.verifier;
                body = mine.body;
              };
              entries_are = refl;
              directory = refl;
              parent = refl;
              stamp = refl;
              links = λ dir. let never : true ≡ false = sym dir ∙ parts.0 in cc;
              whole = λ dir. let never : true ≡ false = sym dir ∙ parts.0 in cc;
              names = λ other. omega (arith, big, lacks_one, whole);
              named = λ other. omega (arith, big);
              others = others;
            });
        there = change.there;
        ancestors = λ steps q apart. keeping.ancestors tree
            (with_node tree number fewer) lacks after number file
            fewer change good refl refl steps q;
        has_space = let sum = change.sums (λ dirent. cost dirent.1.body) in omega (arith, sum);
      }

  unnamed_by : (last : Bool) → is_last_name file ≡ last
      → Unnamed tree (cond last (without_node tree number) (with_node tree number fewer)) after number
  unnamed_by true is = gone_tree is
  unnamed_by false is = fewer_tree is

  -- A file that lost a name is gone or has a link less.
  pub unname : Unnamed tree (unnamed tree moment number file) after number
  unname = unnamed_by (is_last_name file) refl
