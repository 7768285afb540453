-- Pieces that are written one behind another are one text that is written.
use Rattle.std.proofs.Common.{◌≡◌, ℕ, zero, suc, ◌+◌, ◌-◌, ◌/◌, ◌%◌, ◌<◌, ◌≤◌, inl, inr, sym, ap, ◌∙◌, refl}
use Rattle.std.proofs.Common.{Bool, true, false, cond, ◌||◌, List, [], ◌∷◌, ◌++◌, length, length-append, get_or}
use Rattle.std.proofs.Common.{Option, Some, arith}
use Rattle.std.specs.Cmp.{nat_cmp_total}
use Rattle.std.specs.FinMap.{get-insert, insert, nat_cmp-IsAntisymmetric, same_map}
use Rattle.std.specs.FinSet as set
use Rattle.std.specs.FinSet.{FinSet, contains, contains-insert, contains-items, items, len, len-insert}
use Rattle.std.specs.List.{range_with_len}
use Rattle.std.specs.Ordering.{eq_by_cmp, nat_cmp}
use Rattle.std.proofs.lemmas.Bool.{cases_lt}
use Rattle.std.proofs.lemmas.List.{ext_get_or, get_or-append_right, get_or_append_left}
use Rattle.base.specs.declared.TheConstants.{BLOCK_BYTES}
use Rattle.nfs_spec.specs.Model.Cost.{cost, file_cost}
use Rattle.nfs_spec.specs.Model.Node as nodes
use Rattle.nfs_spec.specs.Model.Node.{Body, Node}
use Rattle.nfs_spec.specs.Model.Tree.{Tree, free, node_at, with_node}
use Rattle.nfs_spec.proofs.ModelLemmas.Costs.{more_cost}
use Rattle.nfs_spec.proofs.ModelLemmas.Maps.{sum_insert}
use Rattle.nfs_spec.proofs.ModelLemmas.Sets.{has, itself}
use Rattle.nfs_spec.specs.Procedures.Write.{mapped_with, overwritten, touched, with_text}
use Rattle.nfs_spec.proofs.ProceduresLemmas.Overwriting.{preserved_before, preserved_behind, length_overwritten, written_at}

-- ---- bytes

module _ (offset : ℕ) (t p bytes : List ℕ) where
  abbrev first : List ℕ
  first = overwritten offset t bytes

  abbrev both : List ℕ
  both = t ++ p

  two_items : (i : ℕ)
      → get_or (overwritten (offset + length t) p first) i 0 ≡ get_or (overwritten offset both bytes) i 0
  two_items i =
      let long = length-append t p in
      elim (cases_lt i (offset + length t)) [
        | inl early ↦ preserved_before (offset + length t) i p first early ∙ (elim (cases_lt i offset) [
          | inl before ↦ preserved_before offset i t bytes before ∙ sym (preserved_before offset i both bytes before)
          | inr inside ↦ written_at offset i t bytes inside early
              ∙ sym (written_at offset i both bytes inside (omega (arith, early, long))
              ∙ get_or_append_left t p 0 (i - offset) (omega (arith, inside, early)))
        ])
        | inr late ↦ (elim (cases_lt i (offset + length t + length p)) [
          | inl inside ↦
              let there : i - offset - length t ≡ i - (offset + length t) = omega arith in
              written_at (offset + length t) i p first late inside
              ∙ sym (written_at offset i both bytes (omega (arith, late)) (omega (arith, inside, long))
              ∙ get_or-append_right t p (length t) (i - offset) 0 refl (omega (arith, late))
              ∙ ap (λ k. get_or p k 0) there)
          | inr behind ↦ preserved_behind (offset + length t) i p first behind
              ∙ preserved_behind offset i t bytes (omega (arith, late))
              ∙ sym (preserved_behind offset i both bytes (omega (arith, behind, long)))
        ])
      ]

  pub over_both : overwritten (offset + length t) p first ≡ overwritten offset both bytes
  over_both =
      let one = length_overwritten (offset + length t) p first in
      let two = length_overwritten offset t bytes in
      let three = length_overwritten offset both bytes in
      let long = length-append t p in
      ext_get_or 0 (overwritten (offset + length t) p first) (overwritten offset both bytes)
      (omega (arith, one, two, three, long)) (λ i inside. two_items i)

-- ---- indexes

pub ranges : (a k n : ℕ) (mapped : FinSet nat_cmp)
    → mapped_with (range_with_len a (k + n)) mapped
    ≡ mapped_with (range_with_len (a + k) n) (mapped_with (range_with_len a k) mapped)
ranges a zero n mapped =
    let count : 0 + n ≡ n = omega arith in
    let there : a ≡ a + 0 = omega arith in
    ap (λ m. mapped_with (range_with_len a m) mapped) count
    ∙ ap (λ m. mapped_with (range_with_len m n) mapped) there
ranges a (suc k) n mapped =
    let count : suc k + n ≡ suc (k + n) = omega arith in
    let there : a + 1 + k ≡ a + suc k = omega arith in
    ap (λ m. mapped_with (range_with_len a m) mapped) count
    ∙ ranges (a + 1) k n (set.insert mapped a)
    ∙ ap (λ m. mapped_with (range_with_len m n) (mapped_with (range_with_len (a + 1) k) (set.insert mapped a))) there

-- ---- costs

or_more : (a b : Bool) → b ≡ true → (a || b) ≡ true
or_more true b e = refl
or_more false b e = e

grows : (b : Bool) (n : ℕ) → n ≤ cond b n (n + 1)
grows true n = omega arith
grows false n = omega arith

-- one index more, beside those that are there
module _ (mapped : FinSet nat_cmp) (index : ℕ) where
  has_one : (q : ℕ) → (eq_by_cmp nat_cmp q index || contains mapped q) ≡ true
      → has (items (set.insert mapped index)) q ≡ true
  has_one q e = sym (contains-items (set.insert mapped index) q) ∙ contains-insert nat_cmp_total mapped index q ∙ e

  pub still_in : (q : ℕ) → has (items mapped) q ≡ true → has (items (set.insert mapped index)) q ≡ true
  still_in q e = has_one q (or_more (eq_by_cmp nat_cmp q index) (contains mapped q) (contains-items mapped q ∙ e))

  pub index_in : has (items (set.insert mapped index)) index ≡ true
  index_in = has_one index (ap (λ t. t || contains mapped index) (itself index))

  one_more_index : file_cost mapped ≤ file_cost (set.insert mapped index)
  one_more_index =
      let size = len-insert nat_cmp_total mapped index in
      let wider = grows (contains mapped index) (len mapped) in
      more_cost mapped (set.insert mapped index) still_in (omega (arith, size, wider))

more_indexes : (indexes : List ℕ) (mapped : FinSet nat_cmp)
    → file_cost mapped ≤ file_cost (mapped_with indexes mapped)
more_indexes [] mapped = omega arith
more_indexes (index ∷ indexes) mapped =
    let one = one_more_index mapped index in
    let rest = more_indexes indexes (set.insert mapped index) in
    omega (arith, one, rest)

pub costs_more : (offset : ℕ) (text : List ℕ) (body : Body) → cost body ≤ cost (with_text offset text body)
costs_more offset text (nodes.Regular bytes mapped) = more_indexes (touched offset (length text)) mapped
costs_more offset text (nodes.Directory named span parent) = omega arith
costs_more offset text (nodes.Link target) = omega arith

-- a longer text costs no less
pub costs_within : (offset : ℕ) (t u : List ℕ) (body : Body) → 0 < length t → length t ≤ length u
    → cost (with_text offset t body) ≤ cost (with_text offset u body)
costs_within offset t u (nodes.Regular bytes mapped) some short =
    let a = offset / BLOCK_BYTES in
    let k = suc ((offset + length t - 1) / BLOCK_BYTES - a) in
    let n = suc ((offset + length u - 1) / BLOCK_BYTES - a) in
    let sum : k + (n - k) ≡ n = omega (arith, some, short) in
    let more = more_indexes (range_with_len (a + k) (n - k)) (mapped_with (range_with_len a k) mapped) in
    let all = ap file_cost (sym (ranges a k (n - k) mapped)
    ∙ ap (λ m. mapped_with (range_with_len a m) mapped) sum) in
    omega (arith, more, all)
costs_within offset t u (nodes.Directory named span parent) some short = omega arith
costs_within offset t u (nodes.Link target) some short = omega arith

-- ---- the text

-- a piece behind what was written, at a border of blocks
pub text_both : (offset : ℕ) (t p : List ℕ) (body : Body) → 0 < length t → 0 < length p
    → (offset + length t) % BLOCK_BYTES ≡ 0
    → with_text (offset + length t) p (with_text offset t body) ≡ with_text offset (t ++ p) body
text_both offset t p (nodes.Regular bytes mapped) some more border =
    let a = offset / BLOCK_BYTES in
    let k = suc ((offset + length t - 1) / BLOCK_BYTES - a) in
    let n = suc ((offset + length t + length p - 1) / BLOCK_BYTES - (offset + length t) / BLOCK_BYTES) in
    let next : (offset + length t) / BLOCK_BYTES ≡ a + k = omega (arith, some, border) in
    let long = length-append t p in
    let all : suc ((offset + length (t ++ p) - 1) / BLOCK_BYTES - a) ≡ k + n =
    omega (arith, some, more, border, long) in
    λ i. nodes.Regular (over_both offset t p bytes i)
    ((ap (λ m. mapped_with (range_with_len m n) (mapped_with (range_with_len a k) mapped)) next
    ∙ sym (ranges a k n mapped)
    ∙ ap (λ m. mapped_with (range_with_len a m) mapped) (sym all)) i)
text_both offset t p (nodes.Directory named span parent) some more border = refl
text_both offset t p (nodes.Link target) some more border = refl

-- ---- the tree

pub put_twice : (tree : Tree) (n : ℕ) (one two : Node)
    → with_node (with_node tree n one) n two ≡ with_node tree n two
put_twice tree n one two = ap (λ nodes. record { geometry = tree.geometry; nodes = nodes })
    (same_map nat_cmp_total nat_cmp-IsAntisymmetric (insert (insert tree.nodes n one) n two) (insert tree.nodes n two)
    (λ q. get-insert nat_cmp_total (insert tree.nodes n one) n two q
    ∙ ap (cond (eq_by_cmp nat_cmp q n) (Some two)) (get-insert nat_cmp_total tree.nodes n one q)
    ∙ last (eq_by_cmp nat_cmp q n) (node_at tree q)
    ∙ sym (get-insert nat_cmp_total tree.nodes n two q)))
  where
    last : (t : Bool) (was : Option Node) → cond t (Some two) (cond t (Some one) was) ≡ cond t (Some two) was
    last true was = refl
    last false was = refl

-- what is left of the room behind a part
pub next_space : (tree : Tree) (n : ℕ) (node : Node) (one two full : Body) → node_at tree n ≡ Some node
    → cost node.body ≤ cost one → cost one ≤ cost two → cost two ≤ cost full
    → cost full - cost node.body ≤ free tree
    → cost two - cost one ≤ free (with_node tree n (record node { body = one }))
next_space tree n node one two full was low more most has_space =
    let sum = sum_insert (λ (e : ℕ × Node). cost e.1.body) n node (record node { body = one }) tree.nodes was in
    omega (arith, sum, low, more, most, has_space)
