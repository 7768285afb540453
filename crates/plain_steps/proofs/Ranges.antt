-- The first number of a range that passes a test.
use Rattle.std.proofs.Common.{rules, ◌≡◌, ℕ, zero, suc, ◌+◌, ◌-◌, ◌<◌, ◌≤◌, sym, ap, ◌∙◌, refl, Bool, true}
use Rattle.std.proofs.Common.{false}
use Rattle.std.proofs.Common.{cond, ◌||◌, List, [], ◌∷◌, map, nat_eq, Option, Some, None, is_none, is_some}
use Rattle.std.proofs.Common.{arith}
use Rattle.std.specs.List.{find, list_any, range_with_len}
use Rattle.nfs_spec.specs.Model.Tree.{Tree, node_at}
use Rattle.nfs_spec.specs.Procedures.Fresh.{IsNewNumber}
use Rattle.plain_tree.specs.Tree.Named.{plain_dirent_of}
use Rattle.plain_tree.specs.declared.tree.plain_names.PlainDirent.{PlainDirent}
use Rattle.plain_steps.specs.Numbered.{least_unused}

module _ (test : ℕ → Bool) where
  -- the first that passes, from a number on and below an end
  abbrev pub first_in : ℕ → ℕ → Option ℕ
  first_in from end = find test (range_with_len from (end - from))

  split : (from end : ℕ) → from < end
      → range_with_len from (end - from) ≡ from ∷ range_with_len (from + 1) (end - (from + 1))
  split from end below =
      let count : end - from ≡ suc (end - (from + 1)) = omega (arith, below) in
      ap (range_with_len from) count

  decided : (b known : Bool) (n : ℕ) (rest : Option ℕ) → b ≡ known
      → cond b (Some n) rest ≡ cond known (Some n) rest
  decided b known n rest is = ap (λ t. cond t (Some n) rest) is

  pub passes : (from end : ℕ) → from < end → test from ≡ true → first_in from end ≡ Some from
  passes from end below is =
      ap (find test) (split from end below)
      ∙ decided (test from) true from (first_in (from + 1) end) is

  pub fails : (from end : ℕ) → from < end → test from ≡ false → first_in from end ≡ first_in (from + 1) end
  fails from end below is =
      ap (find test) (split from end below)
      ∙ decided (test from) false from (first_in (from + 1) end) is

  pub none_behind : (from end : ℕ) → end ≤ from → first_in from end ≡ None
  none_behind from end order =
      let count : end - from ≡ 0 = omega (arith, order) in
      ap (λ n. find test (range_with_len from n)) count

  -- what is found passes and lies in the range; where nothing is, nothing in the range passes
  record Found (from count : ℕ) (number : ℕ) : Type 0 where
    pub least : from ≤ number
    pub most : number < from + count
    pub passed : test number ≡ true

  found : (from count number : ℕ) → find test (range_with_len from count) ≡ Some number
      → Found from count number
  found from zero number is = cc
  found from (suc count) number is =
      elim (test from) as (λ b. test from ≡ b → cond b (Some from) (find test (range_with_len (from + 1) count))
      ≡ Some number → Found from (suc count) number) [
        | true ↦ λ pass e.
            let same : from ≡ number = cc in
            record {
              least = omega (arith, same);
              most = omega (arith, same);
              passed = ap test (sym same) ∙ pass;
            }
        | false ↦ λ failed e.
            let rest = found (from + 1) count number e in
            let least = rest.least in
            let most = rest.most in
            record { least = omega (arith, least); most = omega (arith, most); passed = rest.passed }
      ] refl is

  missed : (from count number : ℕ) → find test (range_with_len from count) ≡ None → from ≤ number
      → number < from + count → test number ≡ true → ⊥
  missed from zero number is low high pass = absurd (omega (arith, low, high))
  missed from (suc count) number is low high pass =
      elim (test from) as (λ b. test from ≡ b → cond b (Some from) (find test (range_with_len (from + 1) count))
      ≡ None → ⊥) [
        | true ↦ λ t e. cc
        | false ↦ λ failed e.
            elim (nat_eq from number) as (λ b. nat_eq from number ≡ b → ⊥) [
              | true ↦ λ same.
                  let one : from ≡ number = search rules in
                  let both = sym failed ∙ ap test one ∙ pass in cc
              | false ↦ λ other.
                  let further : from + 1 ≤ number = search rules in
                  missed (from + 1) count number e further (omega (arith, high)) pass
            ] refl
      ] refl is

none_there : {A : Type 0} (o : Option A) → is_none o ≡ true → o ≡ None
none_there None e = refl
none_there (Some x) e = cc

none_yes : {A : Type 0} (o : Option A) → o ≡ None → is_none o ≡ true
none_yes o e = ap is_none e

-- the least unused number is one that a new file may get
new_number : (tree : Tree) (found_one : Option ℕ) → least_unused tree ≡ found_one → IsNewNumber tree found_one
new_number tree None is = λ number unused.
    let low = unused.least in
    let high = unused.most in
    missed (λ n. is_none (node_at tree n)) 1 (tree.geometry.inodes - 1) number is (omega (arith, low))
    (omega (arith, low, high)) (none_yes (node_at tree number) unused.free)
new_number tree (Some number) is =
    let at = found (λ n. is_none (node_at tree n)) 1 (tree.geometry.inodes - 1) number is in
    let low = at.least in
    let high = at.most in
    record {
      least = omega (arith, low);
      most = omega (arith, low, high);
      free = none_there (node_at tree number) at.passed;
    }

pub least_is_new : (tree : Tree) (number : Option ℕ) → number ≡ least_unused tree → IsNewNumber tree number
least_is_new tree number is = new_number tree number (sym is)

pub some_there : {A : Type 0} (o : Option A) → is_some o ≡ true → false ≡ is_none o
some_there None e = cc
some_there (Some x) e = refl

-- entries of which one lies in a slot
pub any_slot : (slot : ℕ) (xs : List PlainDirent)
    → list_any (λ e. nat_eq e.slot slot) xs ≡ list_any (λ e. nat_eq e.1.slot slot) (map plain_dirent_of xs)
any_slot slot [] = refl
any_slot slot (x ∷ xs) = ap (λ b. nat_eq x.slot slot || b) (any_slot slot xs)
