-- What is kept of a tree in the middle of a step where a file comes or goes that no entry names.
use Rattle.std.proofs.Common.{◌≡◌, ◌≢◌, inl, inr, ℕ, zero, suc, ◌+◌, ◌<◌, ◌≤◌, sym, ap, subst, ◌∙◌, refl}
use Rattle.std.proofs.Common.{true, false, cond, nat_eq, [], length, get_or, Option, Some, None}
use Rattle.std.proofs.Common.{is_some, All, IsSome, count_by, arith}
use Rattle.std.specs.FinMap.{entries}
use Rattle.base.specs.declared.TheConstants.{ROOT}
use Rattle.nfs_spec.specs.Model.Names.{ancestor, child_directories, entries_of, is_directory, is_directory_at}
use Rattle.nfs_spec.specs.Model.Names.{names_in}
use Rattle.nfs_spec.specs.Model.Names.{names_of, parent_in, parent_of}
use Rattle.nfs_spec.specs.Model.Node.{Node, Body, Regular, Directory, Link}
use Rattle.nfs_spec.specs.Model.Sound.{SoundNode}
use Rattle.nfs_spec.specs.Model.Tree.{Tree, node_at}
use Rattle.nfs_spec.proofs.ProceduresLemmas.Tests.{differs, unequal, yes_or_no}
use Rattle.nfs_spec.proofs.ProceduresLemmas.Keeping.{names_in_none}
use Rattle.nfs_spec.proofs.ProceduresLemmas.Lacking.{Change, ArePreserved, Lacking, LackingAt, LackingChild}
use Rattle.nfs_spec.proofs.ProceduresLemmas.Lacking.{Reached, changed_tree, equal_or_not}
use Rattle.nfs_spec.proofs.ProceduresLemmas.Parts.{count_alike, each_fails, part, sum_none, sum_remove}
use Rattle.nfs_spec.proofs.ProceduresLemmas.Sums.{got_at}
use Rattle.std.specs.Cmp.{nat_cmp_total}
use Rattle.std.specs.FinMap.{nat_cmp-IsAntisymmetric}

-- one file names a number no more often than all together
pub names_in_of : (tree : Tree) (at q : ℕ) (node : Node) → node_at tree at ≡ Some node
    → names_in q node.body ≤ names_of tree q
names_in_of tree at q node is =
    let sum = sum_remove nat_cmp_total nat_cmp-IsAntisymmetric
    (λ dirent. names_in q dirent.1.body) tree.nodes at in
    let counts = ap (part (λ dirent. names_in q dirent.1.body) at) is in
    omega (arith, sum, counts)

module _ (tree next : Tree) (lacks after : ℕ → ℕ) (number : ℕ) (old new : Option Node)
    (change : Change tree next number old new) (good : Lacking tree lacks)
    (unnamed : names_of tree number ≡ 0)
    (others : (q : ℕ) → q ≢ number → after q ≡ lacks q)
    (nothing_old : (q : ℕ) → part (λ dirent. names_in q dirent.1.body) number old ≡ 0)
    (nothing_new : (q : ℕ) → part (λ dirent. names_in q dirent.1.body) number new ≡ 0)
    (childless : (q : ℕ) (node : Node) → node_at tree q ≡ Some node → is_directory node.body ≡ true
    → q ≢ number → parent_of node.body ≢ number) where
  pub same_names : (q : ℕ) → names_of next q ≡ names_of tree q
  same_names q =
      let sum = change.sums (λ dirent. names_in q dirent.1.body) in
      let old_none = nothing_old q in
      let new_none = nothing_new q in
      omega (arith, sum, old_none, new_none)

  -- no file of the tree names the number
  dirent_apart : (at : ℕ) (node : Node) → node_at tree at ≡ Some node → (index : ℕ) (d : _)
      → index < length (entries_of node.body) → (get_or (entries_of node.body) index d).1.number ≢ number
  dirent_apart at node is index d inside =
      let less = names_in_of tree at number node is in
      differs _ _
      (each_fails (λ dirent. nat_eq dirent.1.number number) (entries_of node.body) (omega (arith, less, unnamed))
      index d inside)

  children : (at : ℕ) (node : Node) → node_at tree at ≡ Some node
      → child_directories next node.body ≡ child_directories tree node.body
  children at node is =
      count_alike (λ dirent. is_directory_at (node_at next dirent.1.number))
      (λ dirent. is_directory_at (node_at tree dirent.1.number)) (entries_of node.body)
      (λ index d inside. ap is_directory_at (change.there _ (dirent_apart at node is index d inside)))

  no_parent_by : (q : ℕ) (at : Option Node) → node_at tree q ≡ at → q ≢ number → 0 < number
      → parent_in at ≢ number
  no_parent_by q None is apart some = λ zero_is. omega (arith, zero_is, some)
  no_parent_by q (Some node) is apart some =
      elim (yes_or_no (is_directory node.body)) [
        | inl dir ↦ childless q node is dir apart
        | inr fails ↦ λ same. let none = no_parent node.body fails in omega (arith, same, none, some)
      ]
    where
      no_parent : (body : Body) → is_directory body ≡ false → parent_of body ≡ 0
      no_parent (Regular bytes mapped) fails = refl
      no_parent (Directory named span parent) fails = cc
      no_parent (Link target) fails = refl

  pub ancestors : 0 < number → (steps q : ℕ) → q ≢ number → ancestor next steps q ≡ ancestor tree steps q
  ancestors some zero q apart = refl
  ancestors some (suc steps) q apart =
      ap (λ o. ancestor next steps (parent_in o)) (change.there q apart)
      ∙ ancestors some steps (parent_in (node_at tree q)) (no_parent_by q (node_at tree q) refl apart some)

  unaffected : 0 < number → (q : ℕ) (node : Node) → q ≢ number → node_at tree q ≡ Some node
      → ArePreserved tree next lacks after q node node
  unaffected some q node apart is =
      let at = good.files q node is in
      let named : names_of next q + after q ≡ names_of tree q + lacks q =
      let same = same_names q in let preserves = others q apart in omega (arith, same, preserves) in
      record {
        itself = at.itself;
        directory = refl;
        names = λ index d inside.
            ap is_some (change.there _ (dirent_apart q node is index d inside)) ∙ at.names index d inside;
        links = λ no file. record {
          counted = let was = file.counted in omega (arith, was, named);
          named = file.named;
        };
        counted = λ dir. ap (λ n. node.nlink + n) (sym (children q node is));
        named = λ dir. named;
        root = λ dir is_root. refl;
        child = λ dir other parent parent_is. record {
          node = parent;
          is = change.there _ (childless q node is dir apart) ∙ parent_is;
          names = ap (λ n. names_in q parent.body + n) (others q apart);
        };
        reached = λ dir reached. (reached.0, ancestors some reached.0 q apart ∙ reached.1);
      }

-- A file that comes under an unused number, and lacks its one name.
pub record Added (tree : Tree) (lacks after : ℕ → ℕ) (number : ℕ) (new : Node) : Type 0 where
  pub least : 0 < number
  pub most : number < tree.geometry.inodes
  pub itself : SoundNode new
  pub empty : entries_of new.body ≡ []
  pub lacks_one : after number ≡ 1
  pub others : (q : ℕ) → q ≢ number → after q ≡ lacks q
  pub file : is_directory new.body ≡ false → new.nlink ≡ 1
  pub directory : is_directory new.body ≡ true → new.nlink ≡ 2
  pub parent : Node
  pub parent_is : is_directory new.body ≡ true → node_at tree (parent_of new.body) ≡ Some parent
  pub reached : is_directory new.body ≡ true → Reached tree (parent_of new.body)

module _ (tree : Tree) (lacks : ℕ → ℕ) (number : ℕ) (good : Lacking tree lacks)
    (none : node_at tree number ≡ None) where
  some_other : (p : ℕ) → is_some (node_at tree p) ≡ true → p ≢ number
  some_other p some same =
      let never : false ≡ true = sym (ap is_some (ap (node_at tree) same ∙ none)) ∙ some in cc

  -- no entry names an unused number
  pub unnamed_unused : names_of tree number ≡ 0
  unnamed_unused =
      sum_none (λ dirent. names_in number dirent.1.body) (entries tree.nodes) (λ index d inside.
      let dirent = get_or (entries tree.nodes) index d in
      let at = good.files dirent.0 dirent.1 (got_at tree.nodes d index inside) in
      sum_none (λ e. cond (nat_eq e.1.number number) 1 0) (entries_of dirent.1.body) (λ index_within e below.
      ap (λ b. cond b 1 0) (unequal _ _ (some_other _ (at.names index_within e below)))))

  pub no_child : (q : ℕ) (node : Node) → node_at tree q ≡ Some node → is_directory node.body ≡ true
      → q ≢ number → parent_of node.body ≢ number
  no_child q node is dir apart =
      let d = (good.files q node is).directory dir in
      elim (equal_or_not q ROOT) [
        | inl root ↦ λ same.
            let mine = (d.root root).parent in
            some_other ROOT (ap is_some good.root_is) (sym mine ∙ same)
        | inr other ↦ some_other (parent_of node.body) (ap is_some (d.child other).parent_is)
      ]

module _ (tree next : Tree) (lacks after : ℕ → ℕ) (number : ℕ) (new : Node)
    (change : Change tree next number None (Some new)) (good : Lacking tree lacks)
    (add : Added tree lacks after number new) where
  unused : names_of tree number ≡ 0
  unused = unnamed_unused tree lacks number good change.was

  adds_nothing : (q : ℕ) → names_in q new.body ≡ 0
  adds_nothing q = names_in_none q new.body add.empty

  names_now : (q : ℕ) → names_of next q ≡ names_of tree q
  names_now = same_names tree next lacks after number None (Some new) change good unused add.others
      (λ q. refl) adds_nothing (no_child tree lacks number good change.was)

  children_now : child_directories next new.body ≡ 0
  children_now = ap (count_by (λ dirent. is_directory_at (node_at next dirent.1.number))) add.empty

  not_itself : (p : ℕ) (parent : Node) → node_at tree p ≡ Some parent → p ≢ number
  not_itself p parent is same =
      let never : true ≡ false = sym (ap is_some is) ∙ ap is_some (ap (node_at tree) same ∙ change.was) in cc

  added_child : is_directory new.body ≡ true → LackingChild next after number new.body
  added_child dir =
      let here = names_now number in
      let less = names_in_of tree (parent_of new.body) number add.parent (add.parent_is dir) in
      let one = add.lacks_one in
      record {
        once = omega (arith, here, unused, one);
        parent = add.parent;
        parent_is = change.there _ (not_itself _ add.parent (add.parent_is dir)) ∙ add.parent_is dir;
        by_parent = omega (arith, less, unused, one);
      }

  added_reached : is_directory new.body ≡ true → Reached next number
  added_reached dir =
      let to = add.reached dir in (
        suc to.0,
        ap (λ o. ancestor next to.0 (parent_in o)) change.here
            ∙ ancestors tree next lacks after number None (Some new) change good unused add.others (λ q. refl)
            adds_nothing (no_child tree lacks number good change.was) add.least to.0 (parent_of new.body)
            (not_itself _ add.parent (add.parent_is dir))
            ∙ to.1,
      )

  added_at : LackingAt next after number new
  added_at = record {
    least = add.least;
    most = subst (λ g. number < g.inodes) (sym change.geometry) add.most;
    itself = add.itself;
    names = subst (All (λ dirent. IsSome (node_at next dirent.1.number))) (sym add.empty)
        (λ index d inside. absurd (omega (arith, inside)));
    links = λ no. record {
      counted =
          let one = add.file no in
          let here = names_now number in
          let lack = add.lacks_one in
          omega (arith, one, here, unused, lack);
      named = let one = add.file no in omega (arith, one);
    };
    directory = λ dir. record {
      counted = let two = add.directory dir in let none = children_now in omega (arith, two, none);
      root = λ is. let never : false ≡ true =
          sym (ap is_some (ap (node_at tree) (sym is) ∙ change.was)) ∙ ap is_some good.root_is in cc;
      child = λ other. added_child dir;
      reached = added_reached dir;
    };
  }

  -- A new file leaves the tree as it should be, but for its name.
  pub added : Lacking next after
  added =
      changed_tree tree next lacks after number None (Some new) change good
      (λ node is.
      let one : new ≡ node = cc in
      subst (LackingAt next after number) one added_at)
      (unaffected tree next lacks after number None (Some new) change good unused add.others
      (λ q. refl) adds_nothing
      (no_child tree lacks number good change.was) add.least) (
        λ is. let never : false ≡ true =
            sym (ap is_some (ap (node_at tree) (sym is) ∙ change.was)) ∙ ap is_some good.root_is in cc,
        λ is. let never : false ≡ true =
            sym (ap is_some (ap (node_at tree) (sym is) ∙ change.was)) ∙ ap is_some good.root_is in cc,
      )

-- A file that goes: no entry names it, it names none, and no directory that lacks its name lies in it.
pub record Gone (tree : Tree) (lacks after : ℕ → ℕ) (number : ℕ) (old : Node) : Type 0 where
  pub not_root : number ≢ ROOT
  pub empty : entries_of old.body ≡ []
  pub unnamed : names_of tree number ≡ 0
  pub others : (q : ℕ) → q ≢ number → after q ≡ lacks q
  pub orphans : (q : ℕ) (node : Node) → node_at tree q ≡ Some node → is_directory node.body ≡ true
      → q ≢ number → lacks q ≡ 1 → parent_of node.body ≢ number

module _ (tree next : Tree) (lacks after : ℕ → ℕ) (number : ℕ) (old : Node)
    (change : Change tree next number (Some old) None) (good : Lacking tree lacks)
    (going : Gone tree lacks after number old) where
  names_none : (q : ℕ) → names_in q old.body ≡ 0
  names_none q = names_in_none q old.body going.empty

  pub no_child_of : (q : ℕ) (node : Node) → node_at tree q ≡ Some node → is_directory node.body ≡ true
      → q ≢ number → parent_of node.body ≢ number
  no_child_of q node is dir apart =
      let d = (good.files q node is).directory dir in
      elim (equal_or_not q ROOT) [
        | inl root ↦ λ same. going.not_root (sym same ∙ (d.root root).parent)
        | inr other ↦ λ same.
            let child = d.child other in
            let one : Some old ≡ Some child.parent =
            sym change.was ∙ ap (node_at tree) (sym same) ∙ child.parent_is in
            let parent_is : child.parent ≡ old = cc in
            let names = ap (λ n. names_in q n.body) parent_is in
            let none = names_none q in
            let by_parent = child.by_parent in
            going.orphans q node is dir apart (omega (arith, names, none, by_parent)) same
      ]

  -- A file that goes leaves the tree as it should be.
  pub gone : Lacking next after
  gone =
      changed_tree tree next lacks after number (Some old) None change good
      (λ node is. cc)
      (unaffected tree next lacks after number (Some old) None change good going.unnamed going.others names_none
      (λ q. refl) no_child_of (good.files number old change.was).least) going.not_root
