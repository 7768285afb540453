-- What the list of files shows of the tree that it stands for.
use Rattle.std.proofs.Common.{rules, ◌≡◌, ℕ, zero, suc, ◌+◌, ◌<◌, sym, ap, ◌∙◌, refl, Bool, true, false, cond}
use Rattle.std.proofs.Common.{List, [], ◌∷◌, length, get_or, map, position, nat_eq, Option, Some, None}
use Rattle.std.proofs.Common.{arith}
use Rattle.std.specs.List.{AllZip, position_from}
use Rattle.std.proofs.lemmas.List.Quantifiers.{position-Some}
use Rattle.std.proofs.lemmas.Iterator.Adapters.{position_from-zero}
use Rattle.std.specs.Ordering.{nat_cmp, eq_by_cmp}
use Rattle.std.specs.Cmp.{nat_cmp_total, unsigned_tied}
use Rattle.std.specs.FinMap as map
use Rattle.nfs_spec.specs.Model.Node.{Node}
use Rattle.nfs_spec.proofs.ModelLemmas.Sets.{itself}
use Rattle.plain_tree.specs.declared.tree.tree.NumberedNode.{NumberedNode}
use Rattle.nfs_spec.specs.Model.Tree.{node_at}
use Rattle.plain_tree.specs.declared.tree.tree.PlainTree.{PlainTree}
use Rattle.plain_tree.specs.Tree.Plain.{numbered, node_of, tree_of}

abbrev eq : ℕ → ℕ → Bool
eq q k = eq_by_cmp nat_cmp q k

-- what is found at a number behind the first file
skipped : (b : Bool) (v : Node) (o : Option Node) → b ≡ false → cond b (Some v) o ≡ o
skipped true v o e = cc
skipped false v o e = refl

taken : (b : Bool) (v : Node) (o : Option Node) → b ≡ true → cond b (Some v) o ≡ Some v
taken true v o e = refl
taken false v o e = cc

pub find_at : (xs : List NumberedNode) (index : ℕ) (n : NumberedNode) → index < length xs
    → get_or xs index n ≡ n
    → ((k : ℕ) → k < index → nat_eq n.number (get_or xs k n).number ≡ false)
    → map.find nat_cmp n.number (map numbered xs) ≡ Some (node_of n.node)
find_at [] index n inside here first = absurd (omega arith)
find_at (x ∷ xs) zero n inside here first =
    taken (eq n.number x.number) (node_of x.node) (map.find nat_cmp n.number (map numbered xs))
    (ap (λ m. eq n.number m.number) here ∙ itself n.number)
    ∙ ap (λ m. Some (node_of m.node)) here
find_at (x ∷ xs) (suc index) n inside here first =
    skipped (eq n.number x.number) (node_of x.node) (map.find nat_cmp n.number (map numbered xs))
    (unsigned_tied n.number x.number ∙ first 0 (omega arith))
    ∙ find_at xs index n (omega arith) here (λ k below. first (suc k) (omega arith))

neither : (b : Bool) (i : ℕ) (o : Option ℕ) → cond b (Some i) o ≡ None → (b ≡ false) × (o ≡ None)
neither true i o e = cc
neither false i o e = (refl, e)

pub find_none : (xs : List NumberedNode) (q i : ℕ) → position_from (λ n. nat_eq q n.number) i xs ≡ None
    → map.find nat_cmp q (map numbered xs) ≡ None
find_none [] q i none = refl
find_none (x ∷ xs) q i none =
    let both = neither (nat_eq q x.number) i (position_from (λ n. nat_eq q n.number) (i + 1) xs) none in
    skipped (eq q x.number) (node_of x.node) (map.find nat_cmp q (map numbered xs)) (unsigned_tied q x.number
    ∙ both.0)
    ∙ find_none xs q (i + 1) both.1

-- a number that stands nowhere is no file's
pub absent : (tree : PlainTree) (number : ℕ) → position (λ n. nat_eq number n.number) tree.nodes.items ≡ None
    → node_at (tree_of tree) number ≡ None
absent tree number none =
    map.get-from_entries nat_cmp_total (map numbered tree.nodes.items) number
    ∙ find_none tree.nodes.items number 0
    (sym (position_from-zero (λ n. nat_eq number n.number) tree.nodes.items) ∙ none)

-- the first file of a number
pub record First (tree : PlainTree) (number index : ℕ) (file : NumberedNode) : Type 0 where
  pub number_is : number ≡ file.number
  pub inside : index < length tree.nodes.items
  pub here : get_or tree.nodes.items index file ≡ file
  pub first : (k : ℕ) → k < index → nat_eq file.number (get_or tree.nodes.items k file).number ≡ false
  pub got : node_at (tree_of tree) number ≡ Some (node_of file.node)

same_number : (a b : ℕ) → nat_eq a b ≡ true → a ≡ b
same_number a b e = search rules

pub first_of : (tree : PlainTree) (number index : ℕ) (file : NumberedNode)
    → position (λ n. nat_eq number n.number) tree.nodes.items ≡ Some index
    → file ≡ get_or tree.nodes.items index file → First tree number index file
first_of tree number index file is here =
    let at = position-Some (λ n. nat_eq number n.number) tree.nodes.items index file is in
    let number_is : number ≡ file.number = same_number number _ at.1 ∙ ap (λ n. n.number) (sym here) in
    let first : (k : ℕ) → k < index → nat_eq file.number (get_or tree.nodes.items k file).number ≡ false =
    λ k below. ap (λ q. nat_eq q (get_or tree.nodes.items k file).number) (sym number_is) ∙ at.2 k below in
    record {
      number_is = number_is;
      inside = at.0;
      here = sym here;
      first = first;
      got = ap (node_at (tree_of tree)) number_is
          ∙ map.get-from_entries nat_cmp_total (map numbered tree.nodes.items) file.number
          ∙ find_at tree.nodes.items index file at.0 (sym here) first;
    }

-- copies of files stand for the same files
pub same_files : (xs ys : List NumberedNode) → AllZip (λ x y. numbered y ≡ numbered x) xs ys
    → map numbered ys ≡ map numbered xs
same_files [] [] same = refl
same_files [] (y ∷ ys) same = absurd same
same_files (x ∷ xs) [] same = absurd same
same_files (x ∷ xs) (y ∷ ys) same = λ i. same.0 i ∷ same_files xs ys same.1 i
