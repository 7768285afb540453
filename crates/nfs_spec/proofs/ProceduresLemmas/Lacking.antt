-- Trees that are sound but for names that some files lack, as they are in the middle of a step; and what a
-- change of one file keeps.
use Rattle.std.proofs.Common.{◌≡◌, ◌≢◌, ◌⊎◌, inl, inr, ℕ, ◌+◌, ◌<◌, ◌≤◌, sym, ap, subst, ◌∙◌, refl}
use Rattle.std.proofs.Common.{Bool, true, false, cond, Option, Some, None}
use Rattle.std.proofs.Common.{All, IsSome, sum_by, arith}
use Rattle.std.specs.Cmp.{nat_cmp_total}
use Rattle.std.specs.FinMap.{entries, get-insert, get-remove, nat_cmp-IsAntisymmetric}
use Rattle.std.specs.Ordering.{eq_by_cmp, nat_cmp}
use Rattle.base.specs.declared.TheConstants.{ROOT}
use Rattle.nfs_spec.proofs.ModelLemmas.Sets.{eq_by_cmp-is, itself}
use Rattle.nfs_spec.specs.Model.Names.{ancestor, child_directories, entries_of, is_directory, names_in}
use Rattle.nfs_spec.specs.Model.Names.{names_of, parent_of}
use Rattle.nfs_spec.specs.Model.Node.{Node, Body}
use Rattle.nfs_spec.specs.Model.Sound.{Sound, SoundAt, SoundGeometry, SoundNode}
use Rattle.nfs_spec.specs.Model.Tree.{Tree, node_at, used, with_node}
use Rattle.nfs_spec.proofs.ProceduresLemmas.Parts.{part, sum_insert, sum_remove}
use Rattle.nfs_spec.specs.Procedures.Changes.{without_node}

-- What is no directory has as many links as names, with those that it lacks.
pub record LackingFile (tree : Tree) (lacks : ℕ → ℕ) (number : ℕ) (node : Node) : Type 0 where
  pub counted : node.nlink ≡ names_of tree number + lacks number
  pub named : 0 < node.nlink

pub record LackingRoot (tree : Tree) (lacks : ℕ → ℕ) (body : Body) : Type 0 where
  pub unnamed : names_of tree ROOT + lacks ROOT ≡ 0
  pub parent : parent_of body ≡ ROOT

pub record LackingChild (tree : Tree) (lacks : ℕ → ℕ) (number : ℕ) (body : Body) : Type 0 where
  pub once : names_of tree number + lacks number ≡ 1
  pub parent : Node
  pub parent_is : node_at tree (parent_of body) ≡ Some parent
  pub by_parent : names_in number parent.body + lacks number ≡ 1

-- the root is reached by so many steps to the parent
abbrev pub Reached : Tree → ℕ → Type 0
Reached tree number = (steps : ℕ) × (ancestor tree steps number ≡ ROOT)

pub record LackingDirectory (tree : Tree) (lacks : ℕ → ℕ) (number : ℕ) (node : Node) : Type 0 where
  pub counted : node.nlink ≡ 2 + child_directories tree node.body
  pub root : number ≡ ROOT → LackingRoot tree lacks node.body
  pub child : number ≢ ROOT → LackingChild tree lacks number node.body
  pub reached : Reached tree number

pub record LackingAt (tree : Tree) (lacks : ℕ → ℕ) (number : ℕ) (node : Node) : Type 0 where
  pub least : 0 < number
  pub most : number < tree.geometry.inodes
  pub itself : SoundNode node
  pub names : All (λ dirent. IsSome (node_at tree dirent.1.number)) (entries_of node.body)
  pub links : is_directory node.body ≡ false → LackingFile tree lacks number node
  pub directory : is_directory node.body ≡ true → LackingDirectory tree lacks number node

pub record Lacking (tree : Tree) (lacks : ℕ → ℕ) : Type 0 where
  pub geometry : SoundGeometry tree.geometry
  pub root : Node
  pub root_is : node_at tree ROOT ≡ Some root
  pub root_directory : is_directory root.body ≡ true
  pub root_stamp : root.stamp ≡ record { boot = 0; transaction = 0 }
  pub files : (number : ℕ) (node : Node) → node_at tree number ≡ Some node → LackingAt tree lacks number node

-- no file lacks a name
abbrev pub none_lacks : ℕ → ℕ
none_lacks number = 0

module _ (tree : Tree) where
  of_at : (number : ℕ) (node : Node) → SoundAt tree number node → LackingAt tree none_lacks number node
  of_at number node at = record {
    least = at.least;
    most = at.most;
    itself = at.itself;
    names = at.names;
    links = λ no. let file = at.links no in
        record { counted = let same = file.counted in omega (arith, same); named = file.named };
    directory = λ yes. let d = at.directory yes in
        record {
          counted = d.counted;
          root = λ is. let root = d.root is in
              record { unnamed = let no = root.unnamed in omega (arith, no); parent = root.parent };
          child = λ other. let child = d.child other in
              record {
                once = let one = child.once in omega (arith, one);
                parent = child.parent;
                parent_is = child.parent_is;
                by_parent = let one = child.by_parent in omega (arith, one);
              };
          reached = d.reached;
        };
  }

  pub of_sound : Sound tree → Lacking tree none_lacks
  of_sound good = record {
    geometry = good.geometry;
    root = good.root;
    root_is = good.root_is;
    root_directory = good.root_directory;
    root_stamp = good.root_stamp;
    files = λ number node is. of_at number node (good.files number node is);
  }

  to_at : (number : ℕ) (node : Node) → LackingAt tree none_lacks number node → SoundAt tree number node
  to_at number node at = record {
    least = at.least;
    most = at.most;
    itself = at.itself;
    names = at.names;
    links = λ no. let file = at.links no in
        record { counted = let same = file.counted in omega (arith, same); named = file.named };
    directory = λ yes. let d = at.directory yes in
        record {
          counted = d.counted;
          root = λ is. let root = d.root is in
              record { unnamed = let no = root.unnamed in omega (arith, no); parent = root.parent };
          child = λ other. let child = d.child other in
              record {
                once = let one = child.once in omega (arith, one);
                parent = child.parent;
                parent_is = child.parent_is;
                by_parent = let one = child.by_parent in omega (arith, one);
              };
          reached = d.reached;
        };
  }

  -- where no file lacks a name and the blocks reach, the tree is sound
  pub to_sound : Lacking tree none_lacks → used tree ≤ tree.geometry.data_blocks → Sound tree
  to_sound good has_space = record {
    geometry = good.geometry;
    root = good.root;
    root_is = good.root_is;
    root_directory = good.root_directory;
    root_stamp = good.root_stamp;
    files = λ number node is. to_at number node (good.files number node is);
    has_space = has_space;
  }

-- A change of the file of one number: what stood under it, and what stands there now.
pub record Change (tree next : Tree) (number : ℕ) (old new : Option Node) : Type 0 where
  pub geometry : next.geometry ≡ tree.geometry
  pub was : node_at tree number ≡ old
  pub here : node_at next number ≡ new
  pub there : (q : ℕ) → q ≢ number → node_at next q ≡ node_at tree q
  pub sums : (f : ℕ × Node → ℕ)
      → sum_by f (entries next.nodes) + part f number old ≡ sum_by f (entries tree.nodes) + part f number new

unequal : (q k : ℕ) (b : Bool) → q ≢ k → eq_by_cmp nat_cmp q k ≡ b → b ≡ false
unequal q k true apart e = absurd (apart (eq_by_cmp-is q k e))
unequal q k false apart e = refl

by_equal : (q k : ℕ) (b : Bool) → eq_by_cmp nat_cmp q k ≡ b → (q ≡ k) ⊎ (q ≢ k)
by_equal q k true e = inl (eq_by_cmp-is q k e)
by_equal q k false e =
    inr (λ same. let yes : eq_by_cmp nat_cmp q k ≡ true = ap (eq_by_cmp nat_cmp q) (sym same) ∙ itself q in
    let no : true ≡ false = sym yes ∙ e in cc)

pub equal_or_not : (q k : ℕ) → (q ≡ k) ⊎ (q ≢ k)
equal_or_not q k = by_equal q k (eq_by_cmp nat_cmp q k) refl

pub put_change : (tree : Tree) (number : ℕ) (old : Option Node) (new : Node) → node_at tree number ≡ old
    → Change tree (with_node tree number new) number old (Some new)
put_change tree number old new was = record {
  geometry = refl;
  was = was;
  here = get-insert nat_cmp_total tree.nodes number new number
      ∙ ap (λ b. cond b (Some new) (node_at tree number)) (itself number);
  there = λ q apart. get-insert nat_cmp_total tree.nodes number new q
      ∙ ap (λ b. cond b (Some new) (node_at tree q)) (unequal q number (eq_by_cmp nat_cmp q number) apart refl);
  sums = λ f.
      let sum = sum_insert nat_cmp_total nat_cmp-IsAntisymmetric f tree.nodes number new in
      let is = ap (part f number) was in
      omega (arith, sum, is);
}

pub gone_change : (tree : Tree) (number : ℕ) (old : Option Node) → node_at tree number ≡ old
    → Change tree (without_node tree number) number old None
gone_change tree number old was = record {
  geometry = refl;
  was = was;
  here = get-remove nat_cmp_total tree.nodes number number
      ∙ ap (λ b. cond b None (node_at tree number)) (itself number);
  there = λ q apart. get-remove nat_cmp_total tree.nodes number q
      ∙ ap (λ b. cond b None (node_at tree q)) (unequal q number (eq_by_cmp nat_cmp q number) apart refl);
  sums = λ f.
      let sum = sum_remove nat_cmp_total nat_cmp-IsAntisymmetric f tree.nodes number in
      let is = ap (part f number) was in
      omega (arith, sum, is);
}

-- What a step keeps of a directory's child: its parent is there, and names it or lacks it as before.
pub record ParentNow (next : Tree) (after : ℕ → ℕ) (number parent before : ℕ) : Type 0 where
  pub node : Node
  pub is : node_at next parent ≡ Some node
  pub names : names_in number node.body + after number ≡ before

-- What a step keeps of one file, which was `first` and is `node`.
pub record ArePreserved (tree next : Tree) (lacks after : ℕ → ℕ) (number : ℕ) (first node : Node) : Type 0 where
  pub itself : SoundNode node
  pub directory : is_directory node.body ≡ is_directory first.body
  pub names : All (λ dirent. IsSome (node_at next dirent.1.number)) (entries_of node.body)
  pub links : is_directory first.body ≡ false → LackingFile tree lacks number first
      → LackingFile next after number node
  pub counted : is_directory first.body ≡ true
      → node.nlink + child_directories tree first.body ≡ first.nlink + child_directories next node.body
  pub named : is_directory first.body ≡ true → names_of next number + after number ≡ names_of tree number
      + lacks number
  pub root : is_directory first.body ≡ true → number ≡ ROOT → parent_of node.body ≡ parent_of first.body
  pub child : is_directory first.body ≡ true → number ≢ ROOT → (parent : Node)
      → node_at tree (parent_of first.body) ≡ Some parent
      → ParentNow next after number (parent_of node.body) (names_in number parent.body + lacks number)
  pub reached : is_directory first.body ≡ true → Reached tree number → Reached next number

module _ (tree next : Tree) (lacks after : ℕ → ℕ) (same : next.geometry ≡ tree.geometry) where
  module _ (number : ℕ) (first node : Node) (at : LackingAt tree lacks number first)
      (kept : ArePreserved tree next lacks after number first node) where
    preserved_root : is_directory first.body ≡ true → number ≡ ROOT → LackingRoot tree lacks first.body
        → LackingRoot next after node.body
    preserved_root dir is root = record {
      unnamed = let names = kept.named dir in
          let now = ap (λ n. names_of next n + after n) is in
          let before = ap (λ n. names_of tree n + lacks n) is in
          let none = root.unnamed in
          omega (arith, names, now, before, none);
      parent = kept.root dir is ∙ root.parent;
    }

    preserved_child : is_directory first.body ≡ true → number ≢ ROOT → LackingChild tree lacks number first.body
        → LackingChild next after number node.body
    preserved_child dir other child =
        let parent = kept.child dir other child.parent child.parent_is in
        record {
          once = kept.named dir ∙ child.once;
          parent = parent.node;
          parent_is = parent.is;
          by_parent = parent.names ∙ child.by_parent;
        }

    preserved_directory : is_directory first.body ≡ true → LackingDirectory tree lacks number first
        → LackingDirectory next after number node
    preserved_directory dir d = record {
      counted = let links = kept.counted dir in let was = d.counted in omega (arith, links, was);
      root = λ is. preserved_root dir is (d.root is);
      child = λ other. preserved_child dir other (d.child other);
      reached = kept.reached dir d.reached;
    }

    pub preserved_at : LackingAt next after number node
    preserved_at = record {
      least = at.least;
      most = subst (λ g. number < g.inodes) (sym same) at.most;
      itself = kept.itself;
      names = kept.names;
      links = λ no. let was = sym kept.directory ∙ no in kept.links was (at.links was);
      directory = λ yes. let was = sym kept.directory ∙ yes in preserved_directory was (at.directory was);
    }

-- what the root needs of a change
abbrev pub RootPreserved : ℕ → Option Node → Type 0
RootPreserved number None = number ≢ ROOT
RootPreserved number (Some new) = (number ≡ ROOT → is_directory new.body ≡ true)
    × (number ≡ ROOT → new.stamp ≡ record { boot = 0; transaction = 0 })

module _ (tree next : Tree) (lacks after : ℕ → ℕ) (number : ℕ) (old new : Option Node)
    (change : Change tree next number old new) (good : Lacking tree lacks)
    (here : (node : Node) → new ≡ Some node → LackingAt next after number node)
    (there : (q : ℕ) (node : Node) → q ≢ number → node_at tree q ≡ Some node
    → ArePreserved tree next lacks after q node node) where
  file_at_q : (q : ℕ) (node : Node) → node_at next q ≡ Some node → LackingAt next after q node
  file_at_q q node is =
      elim (equal_or_not q number) [
        | inl same ↦
            subst (λ n. LackingAt next after n node) (sym same)
            (here node (sym change.here ∙ ap (node_at next) (sym same) ∙ is))
        | inr apart ↦
            let was : node_at tree q ≡ Some node = sym (change.there q apart) ∙ is in
            preserved_at tree next lacks after change.geometry q node node (good.files q node was)
            (there q node apart was)
      ]

  record RootNow : Type 0 where
    node : Node
    is : node_at next ROOT ≡ Some node
    directory : is_directory node.body ≡ true
    stamp : node.stamp ≡ record { boot = 0; transaction = 0 }

  root_there : ROOT ≢ number → RootNow
  root_there apart = record {
    node = good.root;
    is = change.there ROOT apart ∙ good.root_is;
    directory = good.root_directory;
    stamp = good.root_stamp;
  }

  root_here : (now : Option Node) → node_at next number ≡ now → RootPreserved number now → ROOT ≡ number → RootNow
  root_here None is kept same = absurd (kept (sym same))
  root_here (Some node) is kept same = record {
    node = node;
    is = ap (node_at next) same ∙ is;
    directory = kept.0 (sym same);
    stamp = kept.1 (sym same);
  }

  root_now : RootPreserved number new → RootNow
  root_now kept =
      elim (equal_or_not ROOT number) [
        | inl same ↦ root_here new change.here kept same
        | inr apart ↦ root_there apart
      ]

  -- The tree after a change of one file, from what becomes of it and what is kept of the others.
  pub changed_tree : RootPreserved number new → Lacking next after
  changed_tree kept =
      let root = root_now kept in
      record {
        geometry = subst SoundGeometry (sym change.geometry) good.geometry;
        root = root.node;
        root_is = root.is;
        root_directory = root.directory;
        root_stamp = root.stamp;
        files = file_at_q;
      }
