-- Where the parents in a table lead.
use Rattle.std.proofs.Common.{◌≡◌, ℕ, zero, suc, ◌+◌, ◌<◌, sym, ap, ◌∙◌, refl, subst, Bool, true, false, cond, ◌&&◌}
use Rattle.std.proofs.Common.{nat_lt}
use Rattle.std.proofs.Common.{List, [], ◌∷◌, ◌++◌, length, get_or, length-append, Option, Some, None, inl, inr, arith}
use Rattle.std.proofs.lemmas.Bool.{cases_lt}
use Rattle.std.proofs.lemmas.Bool.Decides.{nat_tests}
use Rattle.std.proofs.lemmas.List.{get_or-append-add, get_or_append_left}
use Rattle.base.specs.declared.TheConstants.{ROOT}
use Rattle.layout.specs.declared.inode.Inode.{Inode}
use Rattle.layout.specs.declared.inode.InodeKind.{InodeKind}
use Rattle.layout.specs.declared.inode.InodeKind.TheVariants.{Directory, Link, Regular}
use Rattle.image_read.specs.ImageCounts.Iterated.{AreFurthest, in_list, iterated}
use Rattle.image_read.proofs.ImageCountsLemmas.Doubled.{there_by}
use Rattle.image_read.specs.declared.counts.links.Links.{Links}
use Rattle.image_read.specs.Counts.Linked.{IsLinked, IsLinkedFile, IsRoot, is_directory_kind}
use Rattle.image_read.specs.Counts.Linked.{parent_below}

-- ---- parents lie below the bound

second : (x y : Bool) → (x && y) ≡ true → y ≡ true
second true y e = e
second false y e = cc

below_by : (b : Bool) (parent size : ℕ) → (b ≡ true → parent < size) → 0 < size → cond b parent 0 < size
below_by true parent size less some = less refl
below_by false parent size less some = some

is_less : (a b : ℕ) → nat_lt a b ≡ true → a < b
is_less a b e = grind (arith, nat_tests)

less_is : (a b : ℕ) → a < b → nat_lt a b ≡ true
less_is a b less = grind (arith, nat_tests)

pub below : (size : ℕ) (inode : Option Inode) → 0 < size → parent_below size inode < size
below size None some = some
below size (Some inode) some =
    below_by (is_directory_kind inode.kind && nat_lt inode.parent size) inode.parent size
    (λ e. is_less inode.parent size (second (is_directory_kind inode.kind) (nat_lt inode.parent size) e)) some

-- ---- the root is its own parent

module _ (size : ℕ) (links : Links) where
  fixed_by : (inode : Inode) (kind : InodeKind) → kind ≡ Directory → IsLinkedFile size links ROOT inode kind
      → cond (is_directory_kind kind && nat_lt inode.parent size) inode.parent 0 ≡ ROOT
  fixed_by inode Directory is linked =
      let less = linked.within in
      let parent = linked.root refl in
      ap (λ b. cond b inode.parent 0) (less_is inode.parent size less) ∙ parent.1
  fixed_by inode Regular is linked = cc
  fixed_by inode Link is linked = cc

  pub root_fixed : (inode : Option Inode) → IsRoot inode → IsLinked size links ROOT inode
      → parent_below size inode ≡ ROOT
  root_fixed None root linked = absurd root
  root_fixed (Some inode) root linked = fixed_by inode inode.kind root.0 linked

-- ---- steps

pub iterated_same : (f h : ℕ → ℕ) (size : ℕ) → ((n : ℕ) → n < size → f n < size) → ((n : ℕ) → n < size → f n ≡ h n)
    → (steps n : ℕ) → n < size → iterated f steps n ≡ iterated h steps n
unfolding iterated
iterated_same f h size within same zero n inside = refl
iterated_same f h size within same (suc steps) n inside =
    iterated_same f h size within same steps (f n) (within n inside) ∙ ap (iterated h steps) (same n inside)

module _ (table : List (Option Inode)) where
  abbrev pub up : ℕ → ℕ
  up n = parent_below (length table) (get_or table n None)

  module _ (parents furthest : List ℕ) (long : length parents ≡ length table)
      (are : (n : ℕ) → n < length table → in_list parents n ≡ up n) (furthest_of : AreFurthest parents furthest) where
    within : (n : ℕ) → n < length table → in_list parents n < length table
    within n inside =
        subst (λ p. p < length table) (sym (are n inside))
        (below (length table) (get_or table n None) (omega (arith, inside)))

    furthest_is : (n : ℕ) → n < length table → in_list furthest n ≡ iterated up furthest_of.0 n
    furthest_is n inside =
        furthest_of.2 n (omega (arith, inside, long))
        ∙ iterated_same (in_list parents) up (length table) within are furthest_of.0 n inside

    -- where the root stands at the place of a directory, steps lead from it to the root
    pub leads : (n : ℕ) → n < length table → in_list furthest n ≡ ROOT → (steps : ℕ) × (iterated up steps n ≡ ROOT)
    leads n inside root = (furthest_of.0, sym (furthest_is n inside) ∙ root)

    -- and the root stands there, where any steps lead to it
    pub is_connected : up ROOT ≡ ROOT → (n : ℕ) → n < length table → (steps : ℕ) × (iterated up steps n ≡ ROOT)
        → in_list furthest n ≡ ROOT
    is_connected fixed n inside reached =
        let some = furthest_of.1 in
        furthest_is n inside
        ∙ there_by up ROOT n (length table)
        (λ m less. below (length table) (get_or table m None) (omega (arith, less))) inside fixed reached.0 reached.1
        furthest_of.0 (omega (arith, some, long))

-- ---- parents, one after another

pub record AreParents (table : List (Option Inode)) (count : ℕ) (parents : List ℕ) : Type 0 where
  pub long : length parents ≡ count
  pub each : (n : ℕ) → n < count → in_list parents n ≡ up table n

module _ (table : List (Option Inode)) where
  pub no_parents : AreParents table 0 []
  no_parents = record { long = refl; each = λ n less. absurd (omega (arith, less)) }

  pub more_parents : (count : ℕ) (parents : List ℕ) (one : ℕ) → AreParents table count parents → one ≡ up table count
      → AreParents table (count + 1) (parents ++ one ∷ [])
  more_parents count parents one before is =
      let long = before.long in
      let all = length-append parents (one ∷ []) in
      record {
        long = omega (arith, long, all);
        each = λ n less. elim (cases_lt n count) [
          | inl sooner ↦ get_or_append_left parents (one ∷ []) 0 n (omega (arith, sooner, long)) ∙ before.each n sooner
          | inr past ↦
              let at : n ≡ count = omega (arith, less, past) in
              let end : n ≡ length parents + 0 = omega (arith, at, long) in
              ap (λ k. get_or (parents ++ one ∷ []) k 0) end ∙ get_or-append-add parents (one ∷ []) 0 0 ∙ is
              ∙ ap (up table) (sym at)
        ];
      }
