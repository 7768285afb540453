-- One inode is changed, with blocks that no other file has: every other file stays, and the owners' counts
-- change by its own.
use Rattle.std.proofs.Common.{◌≡◌, ℕ, zero, suc, ◌+◌, ◌<◌, ◌≤◌, inl, inr, sym, ap, ◌∙◌, refl, subst, Bool}
use Rattle.std.proofs.Common.{cond, List, [], ◌∷◌, nat_eq, nat_lt, nat_le, ◌||◌, sum_by, count_by, arith}
use Rattle.std.specs.List.{AllByRecursion, flat_map, list_any, range_with_len}
use Rattle.std.proofs.lemmas.Bool.{cases_eq}
use Rattle.std.proofs.lemmas.List.Sums.{sum_by-append, sum_by-cons}
use Rattle.nfs_spec.specs.Model.Tree.{Tree, node_at}
use Rattle.layout.specs.declared.geometry.Geometry.{Geometry}
use Rattle.layout.specs.Decode.{IsFile, file_of}
use Rattle.layout.specs.Owners.{IsMarked, owned, owned_by, is_used}
use Rattle.layout.specs.Parts.{Parts}
use Rattle.layout.specs.Geometry.{data_at}
use Rattle.layout.specs.Stands.{HasFiles, file_at}
use Rattle.layout.proofs.Local.{same_rules, same_file, same_owned}

-- From the old parts to the new one inode is changed, and no block that another inode has.
pub record ChangesOne (old new : Parts) (n : ℕ) : Type 0 where
  pub table : (m : ℕ) → (m ≡ n → ⊥) → new.table m ≡ old.table m
  pub content : (m : ℕ) → (m ≡ n → ⊥)
      → AllByRecursion (λ b. new.content b ≡ old.content b) (owned_by old.content (old.table m))

-- ---- sums over a range that differ at one point

module _ (f h : ℕ → ℕ) (n : ℕ) (same : (m : ℕ) → (m ≡ n → ⊥) → f m ≡ h m) where
  sums_past : (a k : ℕ) → n < a → sum_by f (range_with_len a k) ≡ sum_by h (range_with_len a k)
  sums_past a zero past = refl
  sums_past a (suc k) past =
      let here : f a ≡ h a = same a (λ is. omega (arith, past, is)) in
      let rest : sum_by f (range_with_len (a + 1) k) ≡ sum_by h (range_with_len (a + 1) k) =
      sums_past (a + 1) k (omega (arith, past)) in
      let one = sum_by-cons f a (range_with_len (a + 1) k) in
      let two = sum_by-cons h a (range_with_len (a + 1) k) in
      omega (arith, here, rest, one, two)

  sums_of : (a k : ℕ) → a ≤ n → n < a + k
      → sum_by f (range_with_len a k) + h n ≡ sum_by h (range_with_len a k) + f n
  sums_of a zero from to = absurd (omega (arith, from, to))
  sums_of a (suc k) from to =
      let one = sum_by-cons f a (range_with_len (a + 1) k) in
      let two = sum_by-cons h a (range_with_len (a + 1) k) in
      elim (cases_eq a n) [
        | inl is ↦
            let rest : sum_by f (range_with_len (a + 1) k) ≡ sum_by h (range_with_len (a + 1) k) =
            sums_past (a + 1) k (omega (arith, is)) in
            let at_f : f a ≡ f n = ap f is in
            let at_h : h a ≡ h n = ap h is in
            omega (arith, rest, at_f, at_h, one, two)
        | inr not ↦
            let here : f a ≡ h a = same a not in
            let rest : sum_by f (range_with_len (a + 1) k) + h n ≡ sum_by h (range_with_len (a + 1) k) + f n =
            sums_of (a + 1) k (elim (cases_eq (a + 1) (n + 1)) [
              | inl is ↦ absurd (not (omega (arith, is)))
              | inr other ↦ later a n from not
            ]) (omega (arith, to)) in
            omega (arith, here, rest, one, two)
      ]
    where
      later : (a n : ℕ) → a ≤ n → (a ≡ n → ⊥) → a + 1 ≤ n
      later a n from not = omega (arith, from, not)

pub counts : {X : Type 0} (p : ℕ → Bool) (f : X → List ℕ) (xs : List X)
    → count_by p (flat_map f xs) ≡ sum_by (λ x. count_by p (f x)) xs
counts p f [] = refl
counts p f (x ∷ xs) =
    sum_by-append (λ (y : ℕ). cond (p y) 1 0) (f x) (flat_map f xs)
    ∙ ap (λ (k : ℕ). count_by p (f x) + k) (counts p f xs)
    ∙ sym (sum_by-cons (λ y. count_by p (f y)) x xs)

module _ (g : Geometry) (old new : Parts) (n : ℕ) (one : ChangesOne old new n) where
  others_owned : (m : ℕ) → (m ≡ n → ⊥)
      → owned_by new.content (new.table m) ≡ owned_by old.content (old.table m)
  others_owned m not = ap (owned_by new.content) (one.table m not)
      ∙ same_owned old.content new.content (old.table m) (one.content m not)

  -- The files: this one by itself, and the tree has it in the place of the old one, or has none.
  pub changed_files : (tree next : Tree) → HasFiles g old tree
      → (n < g.inodes → IsFile g new.content (new.table n))
      → node_at next n ≡ file_at g new n
      → ((m : ℕ) → (m ≡ n → ⊥) → node_at next m ≡ node_at tree m)
      → HasFiles g new next
  changed_files tree next has mapped here others = record {
    inodes = λ m less. elim (cases_eq m n) [
      | inl is ↦ subst (λ k. k < g.inodes → IsFile g new.content (new.table k)) (sym is) mapped less
      | inr not ↦ subst (IsFile g new.content) (sym (one.table m not))
          (same_rules old.content new.content g (old.table m) (one.content m not) (has.inodes m less))
    ];
    files = λ m. elim (cases_eq m n) [
      | inl is ↦ subst (λ k. node_at next k ≡ file_at g new k) (sym is) here
      | inr not ↦ others m not ∙ has.files m
          ∙ sym (ap (file_of g.inodes new.content) (one.table m not)
          ∙ same_file old.content new.content g.inodes (old.table m) (one.content m not))
    ];
  }

  -- The owners: of each block there are as many as before, but for those that this inode dropped and took.
  pub changed_owners : (p : ℕ → Bool) → n < g.inodes
      → count_by p (owned g new) + count_by p (owned_by old.content (old.table n)) ≡ count_by p (owned g old)
      + count_by p (owned_by new.content (new.table n))
  unfolding owned
  changed_owners p less =
      let after = counts p (λ m. owned_by new.content (new.table m)) (range_with_len 0 g.inodes) in
      let before = counts p (λ m. owned_by old.content (old.table m)) (range_with_len 0 g.inodes) in
      let sums = sums_of (λ m. count_by p (owned_by new.content (new.table m)))
      (λ m. count_by p (owned_by old.content (old.table m))) n
      (λ m not. ap (count_by p) (others_owned m not)) 0 g.inodes (omega arith) (omega (arith, less)) in
      omega (arith, after, before, sums)

  -- An inode that keeps its blocks keeps the list of owners.
  pub same_owners : owned_by new.content (new.table n) ≡ owned_by old.content (old.table n)
      → owned g new ≡ owned g old
  unfolding owned
  same_owners here =
      let each : (m : ℕ) → owned_by new.content (new.table m) ≡ owned_by old.content (old.table m) =
      λ m. elim (cases_eq m n) [
        | inl is ↦ subst (λ k. owned_by new.content (new.table k) ≡ owned_by old.content (old.table k))
            (sym is) here
        | inr not ↦ others_owned m not
      ] in
      λ i. flat_map (λ m. each m i) (range_with_len 0 g.inodes)

  pub same_used : is_used (new.table n) ≡ is_used (old.table n) → (m : ℕ)
      → is_used (new.table m) ≡ is_used (old.table m)
  same_used here m = elim (cases_eq m n) [
    | inl is ↦ subst (λ k. is_used (new.table k) ≡ is_used (old.table k)) (sym is) here
    | inr not ↦ ap is_used (one.table m not)
  ]

-- The marks follow the owners and the inodes in use: where these and the bits are the same, so are the marks.
pub same_marks : (g : Geometry) (old new : Parts) → owned g new ≡ owned g old
    → ((m : ℕ) → is_used (new.table m) ≡ is_used (old.table m))
    → new.block_bits ≡ old.block_bits → new.inode_bits ≡ old.inode_bits → IsMarked g old → IsMarked g new
same_marks g old new owners used block_bits inode_bits marked = record {
  once = λ number. subst (λ list. count_by (λ one. nat_eq one number) list ≤ 1) (sym owners)
      (marked.once number);
  blocks_marked = λ number less. (λ i. block_bits i number) ∙ marked.blocks_marked number less
      ∙ sym (λ i. nat_lt number (data_at g.blocks g.inodes) || nat_le g.blocks number
      || list_any (λ one. nat_eq one number) (owners i));
  inodes_marked = λ number less. (λ i. inode_bits i number) ∙ marked.inodes_marked number less
      ∙ sym (λ i. nat_eq number 0 || nat_le g.inodes number || used number i);
}
