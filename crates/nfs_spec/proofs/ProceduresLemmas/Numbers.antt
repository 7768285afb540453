-- There is a number for a new file, or all are used.
use Rattle.std.proofs.Common.{◌≡◌, ℕ, zero, suc, ◌+◌, ◌<◌, ap, ◌∙◌, refl, Option, Some, None, arith}
use Rattle.std.proofs.Common.{nat_eq, true, false, rules}
use Rattle.nfs_spec.specs.Model.Node.{Node}
use Rattle.nfs_spec.specs.Model.Tree.{Tree, node_at}
use Rattle.nfs_spec.specs.Procedures.Fresh.{IsNewNumber, IsUnused}

pub record NewNumber (tree : Tree) : Type 0 where
  pub new : Option ℕ
  pub is : IsNewNumber tree new

module _ (tree : Tree) where
  abbrev AreUsed : ℕ → Type 0
  AreUsed bound = (number : ℕ) → number < bound → IsUnused tree number → ⊥

  some_not_none : (node : Node) (at : Option Node) → at ≡ Some node → at ≡ None → ⊥
  some_not_none node None is none = cc
  some_not_none node (Some other) is none = cc

  -- one number more is used
  one_more : (bound : ℕ) (node : Node) → AreUsed bound → node_at tree bound ≡ Some node → AreUsed (suc bound)
  one_more bound node used is number below unused =
      elim (nat_eq number bound) as (λ b. nat_eq number bound ≡ b → ⊥) [
        | true ↦ λ e.
            let same : number ≡ bound = search rules in
            some_not_none node (node_at tree number) (ap (node_at tree) same ∙ is) unused.free
        | false ↦ λ e. let less : number < bound = search rules in used number less unused
      ] refl

  -- the number 0 is no file's
  zero_used : AreUsed 1
  zero_used number below unused = let least = unused.least in absurd (omega arith)

  found_at : (bound : ℕ) (at : Option Node) → node_at tree bound ≡ at → 0 < bound
      → bound < tree.geometry.inodes → AreUsed bound → (NewNumber tree → NewNumber tree)
      → (AreUsed (suc bound) → NewNumber tree) → NewNumber tree
  found_at bound None is least most used bound_reached go_on =
      bound_reached (record { new = Some bound; is = record { least = least; most = most; free = is } })
  found_at bound (Some node) is least most used bound_reached go_on = go_on (one_more bound node used is)

  -- all below the bound are used; so many more numbers are left
  from : (left bound : ℕ) → 0 < bound → left + bound ≡ tree.geometry.inodes → AreUsed bound → NewNumber tree
  from zero bound least sum used = record {
    new = None;
    is = λ number unused. let most = unused.most in used number (omega arith) unused;
  }
  from (suc left) bound least sum used =
      found_at bound (node_at tree bound) refl least (omega arith) used (λ n. n)
      (λ more. from left (suc bound) (omega arith) (omega arith) more)

  pub new_number : NewNumber tree
  new_number =
      elim tree.geometry.inodes as (λ n. tree.geometry.inodes ≡ n → NewNumber tree) [
        | zero ↦ λ is. record {
          new = None;
          is = λ number unused. let most = unused.most in absurd (omega arith);
        }
        | suc n ↦ λ is. from n 1 (omega arith) (omega arith) zero_used
      ] refl
