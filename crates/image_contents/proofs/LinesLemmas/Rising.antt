-- The files of rising numbers, one after another.
use Rattle.std.proofs.Common.{◌≡◌, ℕ, zero, suc, ◌<◌, sym, ap, ◌∙◌, refl, subst, List, [], ◌∷◌, ◌++◌, Option, Some, None, arith}
use Rattle.std.specs.declared.cmp.Ordering.TheVariants.{Greater}
use Rattle.std.specs.Cmp.{nat_cmp_is, nat_cmp_total}
use Rattle.std.specs.FinMap.{FinMap, entries, entries-insert, insert, put}
use Rattle.std.specs.FinMap.Entries.{by_order}
use Rattle.std.specs.Ordering.{nat_cmp}
use Rattle.nfs_spec.proofs.ModelLemmas.Maps.{entries-empty}
use Rattle.nfs_spec.specs.Model.Node.{Node}
use Rattle.image_read.specs.Laws.TreeOf.{files_below, with_file}

abbrev NodePair : Type 0
NodePair = ℕ × Node

-- each number is below a bound
abbrev AreBelow : ℕ → List NodePair → Type 0
AreBelow bound [] = Unit {0}
AreBelow bound (e ∷ es) = (e.0 < bound) × AreBelow bound es

-- what is put under a number above all is the last
put_last : (k : ℕ) (node : Node) (es : List NodePair) → AreBelow k es → put nat_cmp k node es ≡ es ++ (k, node) ∷ []
put_last k node [] below = refl
put_last k node (e ∷ es) below =
    ap (λ r. by_order r ((k, node) ∷ e ∷ es) ((e.0, node) ∷ es) (e ∷ put nat_cmp k node es))
    (sym (nat_cmp_is k e.0 Greater below.0))
    ∙ ap (λ rest. e ∷ rest) (put_last k node es below.1)

wider : (k : ℕ) (es : List NodePair) → AreBelow k es → AreBelow (suc k) es
wider k [] below = tt
wider k (e ∷ es) below = (let less = below.0 in omega (arith, less), wider k es below.1)

one_more : (k : ℕ) (node : Node) (es : List NodePair) → AreBelow k es → AreBelow (suc k) (es ++ (k, node) ∷ [])
one_more k node [] below = (omega arith, tt)
one_more k node (e ∷ es) below = (let less = below.0 in omega (arith, less), one_more k node es below.1)

pushed : (k : ℕ) (node : Node) (nodes : FinMap nat_cmp Node) → AreBelow k (entries nodes)
    → entries (insert nodes k node) ≡ entries nodes ++ (k, node) ∷ []
pushed k node nodes below = entries-insert nat_cmp_total nodes k node ∙ put_last k node (entries nodes) below

module _ (file : ℕ → Option Node) where
  are_below : (bound : ℕ) → AreBelow bound (entries (files_below file bound))
  unfolding files_below
  are_below zero = subst (AreBelow zero) (sym (entries-empty nat_cmp)) tt
  are_below (suc number) = by_file (file number) (are_below number)
    where
      by_file : (found : Option Node) → AreBelow number (entries (files_below file number))
          → AreBelow (suc number) (entries (with_file number found (files_below file number)))
      by_file None below = wider number (entries (files_below file number)) below
      by_file (Some node) below =
          subst (AreBelow (suc number)) (sym (pushed number node (files_below file number) below))
          (one_more number node (entries (files_below file number)) below)

  -- none, and one more, in the order of their numbers
  pub no_files : entries (files_below file zero) ≡ []
  unfolding files_below
  no_files = entries-empty nat_cmp

  pub more_files : (number : ℕ) (node : Node)
      → entries (insert (files_below file number) number node)
      ≡ entries (files_below file number) ++ (number, node) ∷ []
  more_files number node = pushed number node (files_below file number) (are_below number)
