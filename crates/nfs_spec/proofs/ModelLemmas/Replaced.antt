-- A tree in which one file is replaced by another that names the same files and uses no more blocks.
use Rattle.std.proofs.Common.{◌≡◌, ℕ, zero, suc, ◌+◌, ◌<◌, ◌≤◌, sym, ap, subst, ◌∙◌, refl, Bool, true, false}
use Rattle.std.proofs.Common.{cond, get_or, count_by, nat_eq, Option, Some, is_some, All, IsSome, arith}
use Rattle.std.specs.Ordering.{nat_cmp, eq_by_cmp}
use Rattle.std.specs.Cmp.{nat_cmp_total}
use Rattle.std.specs.FinMap.{get-insert}
use Rattle.base.specs.declared.TheConstants.{ROOT}
use Rattle.nfs_spec.specs.Model.Node.{Node, Body}
use Rattle.nfs_spec.specs.Model.Tree.{Tree, node_at, with_node, used}
use Rattle.nfs_spec.specs.Model.Cost.{cost}
use Rattle.nfs_spec.specs.Model.Names.{names_of, names_in, child_directories, ancestor, entries_of, is_directory}
use Rattle.nfs_spec.specs.Model.Names.{is_directory_at, parent_of, parent_in}
use Rattle.nfs_spec.specs.Model.Sound.{Sound, SoundAt, SoundNode, SoundRoot, SoundChild, SoundDirectoryLinks}
use Rattle.nfs_spec.proofs.ModelLemmas.Maps.{sum_insert}
use Rattle.nfs_spec.proofs.ModelLemmas.Sets.{eq_by_cmp-is}

-- the new file names what the old one names, and uses no more blocks
pub record SameShape (old new : Node) : Type 0 where
  pub nlink : new.nlink ≡ old.nlink
  pub stamp : new.stamp ≡ old.stamp
  pub entries_are : entries_of new.body ≡ entries_of old.body
  pub directory : is_directory new.body ≡ is_directory old.body
  pub parent : parent_of new.body ≡ parent_of old.body
  pub cost_is : cost new.body ≤ cost old.body

itself : (node : Node) → SameShape node node
itself node = record {
  nlink = refl;
  stamp = refl;
  entries_are = refl;
  directory = refl;
  parent = refl;
  cost_is = omega arith;
}

module _ (tree : Tree) (number : ℕ) (old new : Node) (was : node_at tree number ≡ Some old)
    (shape : SameShape old new) where
  abbrev next : Tree
  next = with_node tree number new

  at_next : (q : ℕ) → node_at next q ≡ cond (eq_by_cmp nat_cmp q number) (Some new) (node_at tree q)
  at_next q = get-insert nat_cmp_total tree.nodes number new q

  alike : {X : Type 0} (f : Option Node → X) → f (Some new) ≡ f (Some old) → (q : ℕ) (b : Bool)
      → eq_by_cmp nat_cmp q number ≡ b → f (cond b (Some new) (node_at tree q)) ≡ f (node_at tree q)
  alike f same q true is = same ∙ ap f (sym was)
      ∙ ap (λ p. f (node_at tree p)) (sym (eq_by_cmp-is q number is))
  alike f same q false is = refl

  -- what the old and the new file have in common, each number's file has in common before and after
  mapped : {X : Type 0} (f : Option Node → X) → f (Some new) ≡ f (Some old) → (q : ℕ)
      → f (node_at next q) ≡ f (node_at tree q)
  mapped f same q = ap f (at_next q) ∙ alike f same q (eq_by_cmp nat_cmp q number) refl

  directories : (q : ℕ) → is_directory_at (node_at next q) ≡ is_directory_at (node_at tree q)
  directories q = mapped is_directory_at shape.directory q

  parents : (q : ℕ) → parent_in (node_at next q) ≡ parent_in (node_at tree q)
  parents q = mapped parent_in shape.parent q

  there : (q : ℕ) → is_some (node_at next q) ≡ is_some (node_at tree q)
  there q = mapped is_some refl q

  names : (q : ℕ) → names_of next q ≡ names_of tree q
  names q =
      let sum = sum_insert (λ dirent. names_in q dirent.1.body) number old new tree.nodes was in
      let same : names_in q new.body ≡ names_in q old.body =
      ap (count_by (λ dirent. nat_eq dirent.1.number q)) shape.entries_are in
      omega (arith, sum, same)

  children : (body : Body) → child_directories next body ≡ child_directories tree body
  children body = λ i. count_by (λ dirent. directories dirent.1.number i) (entries_of body)

  ancestors : (steps q : ℕ) → ancestor next steps q ≡ ancestor tree steps q
  ancestors zero q = refl
  ancestors (suc steps) q = ancestors steps (parent_in (node_at next q))
      ∙ ap (ancestor tree steps) (parents q)

  has_space : used next ≤ used tree
  has_space =
      let sum = sum_insert (λ dirent. cost dirent.1.body) number old new tree.nodes was in
      omega (arith, sum, shape.cost_is)

  -- a file that stands there now, and the one that stood there
  pub record Before (q : ℕ) (node : Node) : Type 0 where
    pub node_before : Node
    pub before_is : node_at tree q ≡ Some node_before
    pub shape_is : SameShape node_before node
    sound_is : SoundNode new → SoundNode node_before → SoundNode node

  before_of : (q : ℕ) (node : Node) (b : Bool) → eq_by_cmp nat_cmp q number ≡ b
      → cond b (Some new) (node_at tree q) ≡ Some node → Before q node
  before_of q node true is e =
      let new_is : new ≡ node = cc in
      record {
        node_before = old;
        before_is = ap (node_at tree) (eq_by_cmp-is q number is) ∙ was;
        shape_is = subst (SameShape old) new_is shape;
        sound_is = λ good _. subst SoundNode new_is good;
      }
  before_of q node false is e = record {
    node_before = node;
    before_is = e;
    shape_is = itself node;
    sound_is = λ _ good. good;
  }

  pub before : (q : ℕ) (node : Node) → node_at next q ≡ Some node → Before q node
  before q node e = before_of q node (eq_by_cmp nat_cmp q number) refl (sym (at_next q) ∙ e)

  -- a file that stood there, and the one that stands there now
  record Now (q : ℕ) (node : Node) : Type 0 where
    node_now : Node
    now_is : node_at next q ≡ Some node_now
    entries_now : entries_of node_now.body ≡ entries_of node.body
    directory_now : is_directory node_now.body ≡ is_directory node.body
    stamp_now : node_now.stamp ≡ node.stamp

  now_of : (q : ℕ) (node : Node) (b : Bool) → eq_by_cmp nat_cmp q number ≡ b → node_at tree q ≡ Some node
      → Now q node
  now_of q node true is e =
      let same : Some old ≡ Some node = sym was ∙ ap (node_at tree) (sym (eq_by_cmp-is q number is)) ∙ e in
      let old_is : old ≡ node = cc in
      record {
        node_now = new;
        now_is = at_next q ∙ ap (λ b. cond b (Some new) (node_at tree q)) is;
        entries_now = shape.entries_are ∙ ap (λ n. entries_of n.body) old_is;
        directory_now = shape.directory ∙ ap (λ n. is_directory n.body) old_is;
        stamp_now = shape.stamp ∙ ap (λ n. n.stamp) old_is;
      }
  now_of q node false is e = record {
    node_now = node;
    now_is = at_next q ∙ ap (λ b. cond b (Some new) (node_at tree q)) is ∙ e;
    entries_now = refl;
    directory_now = refl;
    stamp_now = refl;
  }

  now : (q : ℕ) (node : Node) → node_at tree q ≡ Some node → Now q node
  now q node e = now_of q node (eq_by_cmp nat_cmp q number) refl e

  module _ (q : ℕ) (first node : Node) (at : SoundAt tree q first) (same : SameShape first node) where
    root_preserved : SoundRoot tree first.body → SoundRoot next node.body
    root_preserved root = record { unnamed = names ROOT ∙ root.unnamed; parent = same.parent ∙ root.parent }

    child_preserved : SoundChild tree q first.body → SoundChild next q node.body
    child_preserved child =
        let parent = now (parent_of first.body) child.parent child.parent_is in
        record {
          once = names q ∙ child.once;
          parent = parent.node_now;
          parent_is = ap (node_at next) same.parent ∙ parent.now_is;
          by_parent = ap (count_by (λ dirent. nat_eq dirent.1.number q)) parent.entries_now ∙ child.by_parent;
        }

    directory_preserved : SoundDirectoryLinks tree q first → SoundDirectoryLinks next q node
    directory_preserved d = record {
      counted = same.nlink ∙ d.counted
          ∙ ap (λ n. 2 + n)
          (ap (count_by (λ dirent. is_directory_at (node_at tree dirent.1.number))) (sym same.entries_are)
          ∙ sym (children node.body));
      root = λ is. root_preserved (d.root is);
      child = λ other. child_preserved (d.child other);
      reached = (d.reached.0, ancestors d.reached.0 q ∙ d.reached.1);
    }

    at_preserved : SoundNode node → SoundAt next q node
    at_preserved good = record {
      least = at.least;
      most = at.most;
      itself = good;
      names = subst (All (λ dirent. IsSome (node_at next dirent.1.number))) (sym same.entries_are)
          (λ k d below. there (get_or (entries_of first.body) k d).1.number ∙ at.names k d below);
      links = λ no. let file = at.links (sym same.directory ∙ no) in
          record {
            counted = same.nlink ∙ file.counted ∙ sym (names q);
            named = subst (λ n. 0 < n) (sym same.nlink) file.named;
          };
      directory = λ yes. directory_preserved (at.directory (sym same.directory ∙ yes));
    }

  -- the tree stays sound
  pub sound : Sound tree → SoundNode new → Sound next
  sound good new_good =
      let root = now ROOT good.root good.root_is in
      record {
        geometry = good.geometry;
        root = root.node_now;
        root_is = root.now_is;
        root_directory = root.directory_now ∙ good.root_directory;
        root_stamp = root.stamp_now ∙ good.root_stamp;
        files = λ q node is.
            let b = before q node is in
            let at = good.files q b.node_before b.before_is in
            at_preserved q b.node_before node at b.shape_is (b.sound_is new_good at.itself);
        has_space = let less = has_space in omega (arith, less, good.has_space);
      }
