-- How often a number is named in a tree is how often the slots of all directories name it.
use Rattle.std.proofs.Common.{◌≡◌, ℕ, ◌+◌, ◌<◌, ◌≤◌, sym, ap, ◌∙◌, refl}
use Rattle.std.proofs.Common.{List, [], ◌∷◌, nat_eq, sum_by, count_by, Option, Some, None}
use Rattle.std.proofs.Common.{arith}
use Rattle.std.specs.Cmp.{IsTotalOrder}
use Rattle.std.specs.FinMap.{IsAntisymmetric, entries, from_entries, get, get-from_entries}
use Rattle.std.specs.declared.cmp.Ordering.{Ordering}
use Rattle.std.specs.List.{flat_map, range_with_len}
use Rattle.std.proofs.lemmas.List.Sums.{sum_by-cons}
use Rattle.nfs_spec.proofs.ModelLemmas.Maps.{entries-empty}
use Rattle.nfs_spec.specs.Model.Names.{names_in, names_of}
use Rattle.nfs_spec.specs.Model.Node.{DirentValue, Node}
use Rattle.nfs_spec.specs.Model.Tree.{Tree, node_at}
use Rattle.nfs_spec.proofs.ProceduresLemmas.Parts.{insert_new, part}
use Rattle.layout.proofs.Frame.{counts}
use Rattle.bitmap.proofs.MapSums.{sum_of}
use Rattle.bitmap.proofs.Ranges.{one_if, same_sums}
use Rattle.dir.proofs.Distinct.{Once, first_once}
use Rattle.image_read.specs.ImageCounts.Tally.{times}
use Rattle.image_read.specs.Laws.TreeOf.{numbers_named}

-- ---- a sum over a map of entries of which none stands twice is one over the list

module _ {K X : Type 0} {R : K → K → Ordering} (o : IsTotalOrder R) (exact : IsAntisymmetric R)
    (f : K × X → ℕ) where
  pub sum_once : (es : List (K × X)) → Once {R = R} o exact es → sum_by f (entries (from_entries {R = R} es)) ≡ sum_by f es
  sum_once [] once = ap (sum_by f) (entries-empty R)
  sum_once (e ∷ es) once =
      let both = first_once o exact e es once in
      let none : get (from_entries {R = R} es) e.0 ≡ None = get-from_entries o es e.0 ∙ both.1 in
      let new = insert_new o exact f (from_entries {R = R} es) e.0 e.1 none in
      let rest = sum_once es both.0 in
      let all = sum_by-cons f e es in
      new ∙ joined _ _ _ rest all
    where
      joined : (a b c : ℕ) → a ≡ b → c ≡ f e + b → a + f (e.0, e.1) ≡ c
      joined a b c rest all = omega (arith, rest, all)

-- ---- over the numbers below a bound

pub count_named : (number : ℕ) (es : List (List ℕ × DirentValue))
    → count_by (λ (e : List ℕ × DirentValue). nat_eq e.1.number number) es ≡ times (numbers_named es) number
count_named number [] = refl
count_named number (e ∷ es) =
    let rest = count_named number es in
    let one = sum_by-cons (λ (x : List ℕ × DirentValue). one_if (nat_eq x.1.number number)) e es in
    let two = sum_by-cons (λ n. one_if (nat_eq n number)) e.1.number (numbers_named es) in
    omega (arith, rest, one, two)

-- how often the file of a number names another
abbrev pub names_at : ℕ → Option Node → ℕ
names_at number None = 0
names_at number (Some node) = names_in number node.body

-- As often as the lists of the files' numbers have it, one list a file, so often the tree names a number.
pub names_are : (tree : Tree) (bound : ℕ) (lists : ℕ → List ℕ)
    → ((n : ℕ) → bound ≤ n → node_at tree n ≡ None)
    → (number : ℕ) → ((n : ℕ) → n < bound → names_at number (node_at tree n) ≡ times (lists n) number)
    → names_of tree number ≡ times (flat_map lists (range_with_len 0 bound)) number
names_are tree bound lists none number each =
    sum_of (λ (e : ℕ × Node). names_in number e.1.body) bound tree.nodes none
    ∙ same_sums (λ n. part (λ (e : ℕ × Node). names_in number e.1.body) n (node_at tree n))
    (λ n. times (lists n) number) 0 bound
    (λ n from to. as_names n (node_at tree n) ∙ each n (omega (arith, to)))
    ∙ sym (counts (λ one. nat_eq one number) lists (range_with_len 0 bound))
  where
    as_names : (n : ℕ) (o : Option Node)
        → part (λ (e : ℕ × Node). names_in number e.1.body) n o ≡ names_at number o
    as_names n None = refl
    as_names n (Some node) = refl
