-- What a list of files stands for, file by file.
use Rattle.std.proofs.Common.{rules, ◌≡◌, ℕ, ◌+◌, ◌<◌, sym, ap, ◌∙◌, refl, true}
use Rattle.std.proofs.Common.{List, [], ◌∷◌, length, get_or, drop, map, position, nat_eq, Bool, true, cond}
use Rattle.std.proofs.Common.{Option, Some, None}
use Rattle.std.proofs.Common.{arith, sum_by, is_some}
use Rattle.std.proofs.lemmas.List.{drop_more, get_or_default}
use Rattle.std.proofs.lemmas.Iterator.Adapters.{position_from-zero}
use Rattle.std.proofs.lemmas.List.Quantifiers.{position-Some}
use Rattle.std.specs.Cmp.{nat_cmp_total}
use Rattle.std.specs.FinMap as map
use Rattle.std.specs.Ordering.{nat_cmp}
use Rattle.nfs_spec.proofs.ModelLemmas.Maps.{entries-empty, sum_insert}
use Rattle.nfs_spec.specs.Model.Cost.{cost}
use Rattle.nfs_spec.specs.Model.Node.{Node}
use Rattle.nfs_spec.specs.Model.Tree.{cost_at}
use Rattle.nfs_spec.proofs.ProceduresLemmas.Sums.{sum_insert_new}
use Rattle.plain_tree.proofs.TreeLemmas.Found.{find_at, find_none}
use Rattle.plain_tree.specs.Tree.Plain.{body_of, node_of, numbered}
use Rattle.plain_tree.specs.declared.tree.tree.NumberedNode.{NumberedNode}
use Rattle.plain_steps.specs.Numbered.{blocks_of, files_of, weight_at, weight_of}

same_number : (a b : ℕ) → nat_eq a b ≡ true → a ≡ b
same_number a b e = search rules

-- a number that stands nowhere is no file's
pub got_none : (xs : List NumberedNode) (q : ℕ) → position (λ n. nat_eq q n.number) xs ≡ None
    → map.get (files_of xs) q ≡ None
got_none xs q none =
    map.get-from_entries nat_cmp_total (map numbered xs) q
    ∙ find_none xs q 0 (sym (position_from-zero (λ n. nat_eq q n.number) xs) ∙ none)

-- the first file of a number is that number's
pub got_some : (xs : List NumberedNode) (q index : ℕ) (file : NumberedNode)
    → position (λ n. nat_eq q n.number) xs ≡ Some index → file ≡ get_or xs index file
    → map.get (files_of xs) q ≡ Some (node_of file.node)
got_some xs q index file is here =
    let at = position-Some (λ n. nat_eq q n.number) xs index file is in
    let number_is : q ≡ file.number = same_number q _ at.1 ∙ ap (λ n. n.number) (sym here) in
    ap (map.get (files_of xs)) number_is
    ∙ map.get-from_entries nat_cmp_total (map numbered xs) file.number
    ∙ find_at xs index file at.0 (sym here)
    (λ k below. ap (λ p. nat_eq p (get_or xs k file).number) (sym number_is) ∙ at.2 k below)

module _ (weight : ℕ × Node → ℕ) where
  -- a file before others: one of its number among those is hidden by it
  with_known : (x : NumberedNode) (xs : List NumberedNode) (at : Option Node)
      → map.get (files_of xs) x.number ≡ at
      → weight_of weight (x ∷ xs) + weight_at weight x.number at ≡ weight_of weight xs + weight (numbered x)
  with_known x xs None is =
      let sum = sum_insert_new weight x.number (node_of x.node) (files_of xs) is in
      omega (arith, sum)
  with_known x xs (Some old) is = sum_insert weight x.number old (node_of x.node) (files_of xs) is

  pub weight_first : (xs : List NumberedNode) (index : ℕ) (file : NumberedNode) → index < length xs
      → file ≡ get_or xs index file
      → weight_of weight (drop index xs)
      + weight_at weight file.number (map.get (files_of (drop (index + 1) xs)) file.number)
      ≡ weight_of weight (drop (index + 1) xs) + weight (numbered file)
  weight_first xs index file inside here =
      let rest = drop (index + 1) xs in
      let is : drop index xs ≡ file ∷ rest =
      drop_more xs index file inside ∙ ap (λ x. x ∷ rest) (sym here) in
      ap (λ ys. weight_of weight ys + weight_at weight file.number (map.get (files_of rest) file.number)) is
      ∙ with_known file rest (map.get (files_of rest) file.number) refl

  nothing : weight_of weight [] ≡ 0
  nothing = ap (sum_by weight) (entries-empty nat_cmp)

  pub no_weight_left : (xs : List NumberedNode) → weight_of weight (drop (length xs) xs) ≡ 0
  no_weight_left [] = nothing
  no_weight_left (x ∷ xs) = no_weight_left xs

abbrev blocks : ℕ × Node → ℕ
blocks dirent = cost dirent.1.body

blocks_at : (number : ℕ) (at : Option Node) → cost_at at ≡ weight_at blocks number at
blocks_at number None = refl
blocks_at number (Some node) = refl

pub with_first : (xs : List NumberedNode) (index : ℕ) (file : NumberedNode) → index < length xs
    → file ≡ get_or xs index file
    → blocks_of (drop index xs) + cost_at (map.get (files_of (drop (index + 1) xs)) file.number)
    ≡ blocks_of (drop (index + 1) xs) + cost (body_of file.node.body)
with_first xs index file inside here =
    ap (λ n. blocks_of (drop index xs) + n)
    (blocks_at file.number (map.get (files_of (drop (index + 1) xs)) file.number))
    ∙ weight_first blocks xs index file inside here

pub none_left : (xs : List NumberedNode) → blocks_of (drop (length xs) xs) ≡ 0
none_left = no_weight_left blocks

-- a number that stands somewhere is some file's
pub is_got : (xs : List NumberedNode) (q index : ℕ) → position (λ n. nat_eq q n.number) xs ≡ Some index
    → map.contains_key (files_of xs) q ≡ true
is_got [] q index is = cc
is_got (x ∷ xs) q index is =
    let file : NumberedNode = get_or (x ∷ xs) index x in
    let at = position-Some (λ n. nat_eq q n.number) (x ∷ xs) index x is in
    ap is_some (got_some (x ∷ xs) q index file is (get_or_default (x ∷ xs) index x file at.0))

counted : (b known : Bool) (n m : ℕ) → m ≡ cond b n (n + 1) → b ≡ known → m ≡ cond known n (n + 1)
counted b known n m e same = e ∙ ap (λ k. cond k n (n + 1)) same

-- how many numbers there are with one file more
pub count_known : (xs : List NumberedNode) (index : ℕ) (file : NumberedNode) → index < length xs
    → file ≡ get_or xs index file → (known : Bool)
    → map.contains_key (files_of (drop (index + 1) xs)) file.number ≡ known
    → map.len (files_of (drop index xs))
    ≡ cond known (map.len (files_of (drop (index + 1) xs))) (map.len (files_of (drop (index + 1) xs)) + 1)
count_known xs index file inside here known is =
    let all : drop index xs ≡ file ∷ drop (index + 1) xs =
    drop_more xs index file inside ∙ ap (λ x. x ∷ drop (index + 1) xs) (sym here) in
    ap (λ ys. map.len (files_of ys)) all
    ∙ counted _ known _ _
    (map.len-insert nat_cmp_total (files_of (drop (index + 1) xs)) file.number (node_of file.node)) is

no_files : map.len (files_of []) ≡ 0
no_files = map.len-empty nat_cmp Node

pub none_counted : (xs : List NumberedNode) → map.len (files_of (drop (length xs) xs)) ≡ 0
none_counted [] = no_files
none_counted (x ∷ xs) = none_counted xs
