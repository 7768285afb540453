-- What a change of one file keeps of a tree in the middle of a step: one case for each sort of change.
use Rattle.std.proofs.Common.{◌≡◌, ◌≢◌, inl, inr, ℕ, zero, suc, ◌+◌, ◌<◌, sym, ap, subst, ◌∙◌, refl}
use Rattle.std.proofs.Common.{true, false, nat_eq, [], get_or, Option, Some}
use Rattle.std.proofs.Common.{is_some, All, IsSome, count_by, arith}
use Rattle.base.specs.declared.TheConstants.{ROOT}
use Rattle.nfs_spec.specs.Model.Names.{ancestor, child_directories, entries_of, is_directory, is_directory_at}
use Rattle.nfs_spec.specs.Model.Names.{names_in}
use Rattle.nfs_spec.specs.Model.Names.{names_of, parent_in, parent_of}
use Rattle.nfs_spec.specs.Model.Node.{Node, Body}
use Rattle.nfs_spec.specs.Model.Sound.{SoundNode}
use Rattle.nfs_spec.specs.Model.Tree.{Tree, node_at}
use Rattle.nfs_spec.proofs.ProceduresLemmas.Lacking.{Change, ArePreserved, Lacking, LackingAt, LackingChild, LackingDirectory}
use Rattle.nfs_spec.proofs.ProceduresLemmas.Lacking.{ParentNow, Reached, changed_tree, equal_or_not}
use Rattle.nfs_spec.proofs.ProceduresLemmas.Lacking.{preserved_at}

pub names_in_none : (q : ℕ) (body : Body) → entries_of body ≡ [] → names_in q body ≡ 0
names_in_none q body none = ap (count_by (λ dirent. nat_eq dirent.1.number q)) none

-- A file that becomes another.
module _ (tree next : Tree) (lacks after : ℕ → ℕ) (number : ℕ) (old new : Node)
    (change : Change tree next number (Some old) (Some new)) (good : Lacking tree lacks)
    (same : is_directory new.body ≡ is_directory old.body) where
  -- what the old and the new file have in common, each number's file has in common before and after
  alike : {X : Type 0} (f : Option Node → X) → f (Some new) ≡ f (Some old) → (q : ℕ)
      → f (node_at next q) ≡ f (node_at tree q)
  alike f common q =
      elim (equal_or_not q number) [
        | inl is ↦ ap (λ p. f (node_at next p)) is ∙ ap f change.here ∙ common ∙ sym (ap f change.was)
            ∙ ap (λ p. f (node_at tree p)) (sym is)
        | inr apart ↦ ap f (change.there q apart)
      ]

  children : (body : Body) → child_directories next body ≡ child_directories tree body
  children body =
      λ i. count_by (λ dirent. alike is_directory_at same dirent.1.number i) (entries_of body)

  stand : (body : Body) → All (λ dirent. IsSome (node_at tree dirent.1.number)) (entries_of body)
      → All (λ dirent. IsSome (node_at next dirent.1.number)) (entries_of body)
  stand body all index d inside =
      alike is_some refl (get_or (entries_of body) index d).1.number ∙ all index d inside

  names : (q : ℕ) → names_of next q + names_in q old.body ≡ names_of tree q + names_in q new.body
  names q = change.sums (λ dirent. names_in q dirent.1.body)

  pub ancestors : parent_of new.body ≡ parent_of old.body → (steps q : ℕ)
      → ancestor next steps q ≡ ancestor tree steps q
  ancestors parent zero q = refl
  ancestors parent (suc steps) q =
      ancestors parent steps (parent_in (node_at next q)) ∙ ap (ancestor tree steps) (alike parent_in parent q)

  still : parent_of new.body ≡ parent_of old.body → (q : ℕ) → Reached tree q → Reached next q
  still parent q reached = (reached.0, ancestors parent reached.0 q ∙ reached.1)

  -- a parent that is another file now, or the same
  parent_by : (q p : ℕ) (parent : Node) → node_at tree p ≡ Some parent
      → (p ≡ number → names_in q new.body + after q ≡ names_in q old.body + lacks q)
      → (p ≢ number → after q ≡ lacks q) → ParentNow next after q p (names_in q parent.body + lacks q)
  parent_by q p parent is changes preserves =
      elim (equal_or_not p number) [
        | inl same_number ↦
            let one : Some old ≡ Some parent = sym change.was ∙ ap (node_at tree) (sym same_number) ∙ is in
            let old_is : old ≡ parent = cc in
            record {
              node = new;
              is = ap (node_at next) same_number ∙ change.here;
              names = changes same_number ∙ ap (λ n. names_in q n.body + lacks q) old_is;
            }
        | inr apart ↦ record {
          node = parent;
          is = change.there p apart ∙ is;
          names = ap (λ n. names_in q parent.body + n) (preserves apart);
        }
      ]

  -- what is kept of a file beside
  unaffected : (q : ℕ) (node : Node) → q ≢ number → node_at tree q ≡ Some node
      → names_of next q + after q ≡ names_of tree q + lacks q
      → (is_directory node.body ≡ true → q ≢ ROOT → (parent : Node)
      → node_at tree (parent_of node.body) ≡ Some parent
      → ParentNow next after q (parent_of node.body) (names_in q parent.body + lacks q))
      → (Reached tree q → Reached next q) → ArePreserved tree next lacks after q node node
  unaffected q node apart is named parent reached =
      let at = good.files q node is in
      record {
        itself = at.itself;
        directory = refl;
        names = stand node.body at.names;
        links = λ no file. record {
          counted = let was = file.counted in omega (arith, was, named);
          named = file.named;
        };
        counted = λ dir. ap (λ n. node.nlink + n) (sym (children node.body));
        named = λ dir. named;
        root = λ dir is_root. refl;
        child = λ dir other p p_is. parent dir other p p_is;
        reached = λ dir. reached;
      }

-- A file keeps its entries: at most its links change, with the names that it lacks.
pub record Reshaped (lacks after : ℕ → ℕ) (number : ℕ) (old new : Node) : Type 0 where
  pub itself : SoundNode new
  pub entries_are : entries_of new.body ≡ entries_of old.body
  pub directory : is_directory new.body ≡ is_directory old.body
  pub parent : parent_of new.body ≡ parent_of old.body
  pub stamp : new.stamp ≡ old.stamp
  pub links : is_directory old.body ≡ true → new.nlink ≡ old.nlink
  pub whole : is_directory old.body ≡ true → after number ≡ lacks number
  pub names : is_directory old.body ≡ false → new.nlink + lacks number ≡ old.nlink + after number
  pub named : is_directory old.body ≡ false → 0 < new.nlink
  pub others : (q : ℕ) → q ≢ number → after q ≡ lacks q

module _ (tree next : Tree) (lacks after : ℕ → ℕ) (number : ℕ) (old new : Node)
    (change : Change tree next number (Some old) (Some new)) (good : Lacking tree lacks)
    (shape : Reshaped lacks after number old new) where
  same_names : (q : ℕ) → names_of next q ≡ names_of tree q
  same_names q =
      let sum = names tree next lacks after number old new change good shape.directory q in
      let same : names_in q new.body ≡ names_in q old.body =
      ap (count_by (λ dirent. nat_eq dirent.1.number q)) shape.entries_are in
      omega (arith, sum, same)

  parent_of_q : (q p : ℕ) (parent : Node) → node_at tree p ≡ Some parent → after q ≡ lacks q
      → ParentNow next after q p (names_in q parent.body + lacks q)
  parent_of_q q p parent is preserves =
      let same : names_in q new.body ≡ names_in q old.body =
      ap (count_by (λ dirent. nat_eq dirent.1.number q)) shape.entries_are in
      parent_by tree next lacks after number old new change good shape.directory q p parent is
      (λ _. omega (arith, same, preserves)) (λ _. preserves)

  at_number : ArePreserved tree next lacks after number old new
  at_number =
      let at = good.files number old change.was in
      record {
        itself = shape.itself;
        directory = shape.directory;
        names = stand tree next lacks after number old new change good shape.directory new.body
            (subst (All (λ dirent. IsSome (node_at tree dirent.1.number))) (sym shape.entries_are) at.names);
        links = λ no file. record {
          counted =
              let was = file.counted in
              let same = same_names number in
              let links = shape.names no in
              omega (arith, was, same, links);
          named = shape.named no;
        };
        counted = λ dir.
            let links = shape.links dir in
            let same = children tree next lacks after number old new change good shape.directory new.body in
            let entries_same : child_directories tree new.body ≡ child_directories tree old.body =
            ap (count_by (λ dirent. is_directory_at (node_at tree dirent.1.number))) shape.entries_are in
            omega (arith, links, same, entries_same);
        named = λ dir. let same = same_names number in let whole =
            shape.whole dir in omega (arith, same, whole);
        root = λ dir is_root. shape.parent;
        child = λ dir other parent is.
            subst (λ p. ParentNow next after number p (names_in number parent.body + lacks number))
            (sym shape.parent) (parent_of_q number (parent_of old.body) parent is (shape.whole dir));
        reached = λ dir. still tree next lacks after number old new change good shape.directory shape.parent
            number;
      }

  besides : (q : ℕ) (node : Node) → q ≢ number → node_at tree q ≡ Some node
      → ArePreserved tree next lacks after q node node
  besides q node apart is =
      unaffected tree next lacks after number old new change good shape.directory q node apart is
      (let same = same_names q in let preserves = shape.others q apart in omega (arith, same, preserves))
      (λ dir other parent parent_is. parent_of_q q (parent_of node.body) parent parent_is
      (shape.others q apart))
      (still tree next lacks after number old new change good shape.directory shape.parent q)

  root_old : number ≡ ROOT → old ≡ good.root
  root_old is =
      let one : Some old ≡ Some good.root = sym change.was ∙ ap (node_at tree) is ∙ good.root_is in cc

  -- A file that keeps its entries leaves the tree as it should be.
  pub reshaped : Lacking next after
  reshaped =
      changed_tree tree next lacks after number (Some old) (Some new) change good
      (λ node is.
      let one : new ≡ node = cc in
      subst (LackingAt next after number) one
      (preserved_at tree next lacks after change.geometry number old new
      (good.files number old change.was) at_number))
      besides (
        λ is. shape.directory ∙ ap (λ n. is_directory n.body) (root_old is) ∙ good.root_directory,
        λ is. shape.stamp ∙ ap (λ n. n.stamp) (root_old is) ∙ good.root_stamp,
      )

-- A directory whose entries change: it names more files or fewer, and they lack as many names less or more.
pub record Reentered (tree : Tree) (lacks after : ℕ → ℕ) (number : ℕ) (old new : Node) : Type 0 where
  pub itself : SoundNode new
  pub was_directory : is_directory old.body ≡ true
  pub directory : is_directory new.body ≡ true
  pub parent : parent_of new.body ≡ parent_of old.body
  pub stamp : new.stamp ≡ old.stamp
  pub stand : All (λ dirent. IsSome (node_at tree dirent.1.number)) (entries_of new.body)
  pub names : (q : ℕ) → names_in q new.body + after q ≡ names_in q old.body + lacks q
  pub links : new.nlink + child_directories tree old.body ≡ old.nlink + child_directories tree new.body
  pub children : (q : ℕ) (node : Node) → node_at tree q ≡ Some node → is_directory node.body ≡ true → q ≢ ROOT
      → parent_of node.body ≢ number → after q ≡ lacks q

module _ (tree next : Tree) (lacks after : ℕ → ℕ) (number : ℕ) (old new : Node)
    (change : Change tree next number (Some old) (Some new)) (good : Lacking tree lacks)
    (dirent : Reentered tree lacks after number old new) where
  same_kind : is_directory new.body ≡ is_directory old.body
  same_kind = dirent.directory ∙ sym dirent.was_directory

  named_as : (q : ℕ) → names_of next q + after q ≡ names_of tree q + lacks q
  named_as q =
      let sum = names tree next lacks after number old new change good same_kind q in
      let here = dirent.names q in
      omega (arith, sum, here)

  parent_as : (q : ℕ) (node : Node) → node_at tree q ≡ Some node → is_directory node.body ≡ true → q ≢ ROOT
      → (parent : Node) → node_at tree (parent_of node.body) ≡ Some parent
      → ParentNow next after q (parent_of node.body) (names_in q parent.body + lacks q)
  parent_as q node is dir other parent parent_is =
      parent_by tree next lacks after number old new change good same_kind q (parent_of node.body) parent
      parent_is (λ _. dirent.names q) (λ apart. dirent.children q node is dir other apart)

  entered_at : ArePreserved tree next lacks after number old new
  entered_at = record {
    itself = dirent.itself;
    directory = same_kind;
    names = stand tree next lacks after number old new change good same_kind new.body dirent.stand;
    links = λ no file. let never : true ≡ false = sym dirent.was_directory ∙ no in cc;
    counted = λ dir.
        let links = dirent.links in
        let same = children tree next lacks after number old new change good same_kind new.body in
        omega (arith, links, same);
    named = λ dir. named_as number;
    root = λ dir is_root. dirent.parent;
    child = λ dir other parent is.
        subst (λ p. ParentNow next after number p (names_in number parent.body + lacks number))
        (sym dirent.parent) (parent_as number old change.was dir other parent is);
    reached = λ dir. still tree next lacks after number old new change good same_kind dirent.parent number;
  }

  entered_unaffected : (q : ℕ) (node : Node) → q ≢ number → node_at tree q ≡ Some node
      → ArePreserved tree next lacks after q node node
  entered_unaffected q node apart is =
      unaffected tree next lacks after number old new change good same_kind q node apart is (named_as q)
      (λ dir other parent parent_is. parent_as q node is dir other parent parent_is)
      (still tree next lacks after number old new change good same_kind dirent.parent q)

  root_was : number ≡ ROOT → old ≡ good.root
  root_was is =
      let one : Some old ≡ Some good.root = sym change.was ∙ ap (node_at tree) is ∙ good.root_is in cc

  -- A directory that names other files leaves the tree as it should be.
  pub reentered : Lacking next after
  reentered =
      changed_tree tree next lacks after number (Some old) (Some new) change good
      (λ node is.
      let one : new ≡ node = cc in
      subst (LackingAt next after number) one
      (preserved_at tree next lacks after change.geometry number old new
      (good.files number old change.was) entered_at)) entered_unaffected
      (λ is. dirent.directory, λ is. dirent.stamp ∙ ap (λ n. n.stamp) (root_was is) ∙ good.root_stamp)

-- A directory that lacks its name gets another parent, below which it doesn't lie.
pub record Moved (tree : Tree) (lacks : ℕ → ℕ) (number parent : ℕ) (old new : Node) : Type 0 where
  pub itself : SoundNode new
  pub not_root : number ≢ ROOT
  pub entries_are : entries_of new.body ≡ entries_of old.body
  pub was_directory : is_directory old.body ≡ true
  pub directory : is_directory new.body ≡ true
  pub links : new.nlink ≡ old.nlink
  pub parent_is : parent_of new.body ≡ parent
  pub node : Node
  pub node_is : node_at tree parent ≡ Some node
  pub by_parent : names_in number node.body + lacks number ≡ 1
  pub apart : (steps : ℕ) → ancestor tree steps parent ≢ number
  pub reached : Reached tree parent

module _ (tree next : Tree) (lacks : ℕ → ℕ) (number parent : ℕ) (old new : Node)
    (change : Change tree next number (Some old) (Some new)) (good : Lacking tree lacks)
    (move : Moved tree lacks number parent old new) where
  kind : is_directory new.body ≡ is_directory old.body
  kind = move.directory ∙ sym move.was_directory

  in_both : (q : ℕ) → names_in q new.body ≡ names_in q old.body
  in_both q = ap (count_by (λ dirent. nat_eq dirent.1.number q)) move.entries_are

  names_stay : (q : ℕ) → names_of next q ≡ names_of tree q
  names_stay q =
      let sum = names tree next lacks lacks number old new change good kind q in
      let same = in_both q in
      omega (arith, sum, same)

  -- from the new parent on all ancestors stay
  above : (steps q : ℕ) → ((more : ℕ) → ancestor tree more q ≢ number)
      → ancestor next steps q ≡ ancestor tree steps q
  above zero q never = refl
  above (suc steps) q never =
      ap (λ o. ancestor next steps (parent_in o)) (change.there q (never 0))
      ∙ above steps (parent_in (node_at tree q)) (λ more. never (suc more))

  from_number : Reached next number
  from_number =
      let to = move.reached in (
        suc to.0,
        ap (λ o. ancestor next to.0 (parent_in o)) change.here ∙ ap (ancestor next to.0) move.parent_is
            ∙ above to.0 parent move.apart ∙ to.1,
      )

  on : (q : ℕ) → q ≢ number → Reached next (parent_in (node_at tree q)) → Reached next q
  on q apart to = (suc to.0, ap (λ o. ancestor next to.0 (parent_in o)) (change.there q apart) ∙ to.1)

  reached_by : (steps q : ℕ) → ancestor tree steps q ≡ ROOT → Reached next q
  reached_by zero q is = (0, is)
  reached_by (suc steps) q is =
      elim (equal_or_not q number) [
        | inl same ↦ subst (Reached next) (sym same) from_number
        | inr apart ↦ on q apart (reached_by steps (parent_in (node_at tree q)) is)
      ]

  parent_stays : (q p : ℕ) (node : Node) → node_at tree p ≡ Some node
      → ParentNow next lacks q p (names_in q node.body + lacks q)
  parent_stays q p node is =
      parent_by tree next lacks lacks number old new change good kind q p node is
      (λ _. ap (λ n. n + lacks q) (in_both q)) (λ _. refl)

  moved_child : LackingChild tree lacks number old.body → LackingChild next lacks number new.body
  moved_child child =
      let now = parent_stays number parent move.node move.node_is in
      record {
        once = let same = names_stay number in let one = child.once in omega (arith, same, one);
        parent = now.node;
        parent_is = ap (node_at next) move.parent_is ∙ now.is;
        by_parent = now.names ∙ move.by_parent;
      }

  moved_directory : LackingDirectory tree lacks number old → LackingDirectory next lacks number new
  moved_directory d = record {
    counted =
        let was = d.counted in
        let links = move.links in
        let same = children tree next lacks lacks number old new change good kind new.body in
        let entries_same : child_directories tree new.body ≡ child_directories tree old.body =
        ap (count_by (λ dirent. is_directory_at (node_at tree dirent.1.number))) move.entries_are in
        omega (arith, was, links, same, entries_same);
    root = λ is. absurd (move.not_root is);
    child = λ other. moved_child (d.child other);
    reached = from_number;
  }

  moved_at : LackingAt tree lacks number old → LackingAt next lacks number new
  moved_at at = record {
    least = at.least;
    most = subst (λ g. number < g.inodes) (sym change.geometry) at.most;
    itself = move.itself;
    names = stand tree next lacks lacks number old new change good kind new.body
        (subst (All (λ dirent. IsSome (node_at tree dirent.1.number))) (sym move.entries_are) at.names);
    links = λ no. let never : true ≡ false = sym move.directory ∙ no in cc;
    directory = λ dir. moved_directory (at.directory move.was_directory);
  }

  -- A directory that gets another parent leaves the tree as it should be.
  pub moved_tree : Lacking next lacks
  moved_tree =
      changed_tree tree next lacks lacks number (Some old) (Some new) change good
      (λ node is.
      let one : new ≡ node = cc in
      subst (LackingAt next lacks number) one (moved_at (good.files number old change.was)))
      (λ q node apart is.
      unaffected tree next lacks lacks number old new change good kind q node apart is
      (ap (λ n. n + lacks q) (names_stay q))
      (λ dir other p p_is. parent_stays q (parent_of node.body) p p_is)
      (λ reached. reached_by reached.0 q reached.1))
      (λ is. move.directory, λ is. absurd (move.not_root is))
