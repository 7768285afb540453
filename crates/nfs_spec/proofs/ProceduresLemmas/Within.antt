-- A directory that isn't among as many ancestors of another as there are numbers is none of its ancestors.
use Rattle.std.proofs.Common.{◌≡◌, ◌≢◌, ◌⊎◌, inl, inr, ℕ, zero, suc, ◌+◌, ◌-◌, ◌<◌, ◌≤◌, sym, ap, ◌∙◌, refl}
use Rattle.std.proofs.Common.{Bool, cond}
use Rattle.std.proofs.Common.{true, false, nat_eq, Option, Some, None, get_or, arith}
use Rattle.std.proofs.lemmas.Bool.{cases_lt}
use Rattle.std.proofs.lemmas.Bool.Decides.{nat_tests}
use Rattle.std.proofs.lemmas.List.Folds.{list_any_at}
use Rattle.std.proofs.lemmas.List.FromFn.{get_or-range_with_len, length-range_with_len}
use Rattle.std.specs.List.{range_with_len}
use Rattle.nfs_spec.specs.Model.Names.{ancestor, parent_in}
use Rattle.nfs_spec.specs.Model.Node.{Node}
use Rattle.nfs_spec.specs.Model.Sound.{Sound}
use Rattle.nfs_spec.specs.Model.Tree.{Tree, node_at}
use Rattle.nfs_spec.proofs.ProceduresLemmas.Tests.{is_equal}
use Rattle.nfs_spec.specs.Procedures.Rename.{is_within}

-- Different numbers below a bound are no more than the bound.

-- the place of the greatest number is given to the last
replaced : (ℕ → ℕ) → ℕ → ℕ → ℕ → ℕ
replaced f top last i = cond (nat_eq (f i) top) (f last) (f i)

record Choice (x top other r : ℕ) : Type 0 where
  chosen : ((x ≡ top) × (r ≡ other)) ⊎ ((x ≢ top) × (r ≡ x))

choice_by : (x top other : ℕ) (b : Bool) → nat_eq x top ≡ b → Choice x top other (cond b other x)
choice_by x top other true e = record { chosen = inl (grind (arith, nat_tests, e), refl) }
choice_by x top other false e =
    record { chosen = inr (λ same. let never : true ≡ false = sym (is_equal x top same) ∙ e in cc, refl) }

choice : (f : ℕ → ℕ) (top last i : ℕ) → Choice (f i) top (f last) (replaced f top last i)
unfolding replaced
choice f top last i = choice_by (f i) top (f last) (nat_eq (f i) top) refl

no_more : (count bound : ℕ) (f : ℕ → ℕ) → ((i : ℕ) → i < count → f i < bound)
    → ((i j : ℕ) → i < count → j < count → f i ≡ f j → i ≡ j) → count ≤ bound
no_more zero bound f small different = omega arith
no_more (suc count) zero f small different =
    let none = small count (omega arith) in absurd (omega (arith, none))
no_more (suc count) (suc bound) f small different =
    let rest =
    no_more count bound (replaced f bound count)
    (λ i inside.
    let here = small i (omega (arith, inside)) in
    let last = small count (omega arith) in
    let apart : f i ≢ f count = λ same. let is = different i count (omega (arith, inside)) (omega arith) same in
    absurd (omega (arith, is, inside)) in
    elim (choice f bound count i).chosen [
      | inl c ↦ omega (arith, last, apart, c.0, c.1)
      | inr c ↦ omega (arith, here, c.0, c.1)
    ])
    (λ i j i_in j_in same.
    elim (choice f bound count i).chosen [
      | inl a ↦ elim (choice f bound count j).chosen [
        | inl b ↦ different i j (omega (arith, i_in)) (omega (arith, j_in)) (a.0 ∙ sym b.0)
        | inr b ↦
            let is = different count j (omega arith) (omega (arith, j_in)) (sym a.1 ∙ same ∙ b.1) in
            absurd (omega (arith, is, j_in))
      ]
      | inr a ↦ elim (choice f bound count j).chosen [
        | inl b ↦
            let is = different i count (omega (arith, i_in)) (omega arith) (sym a.1 ∙ same ∙ b.1) in
            absurd (omega (arith, is, i_in))
        | inr b ↦ different i j (omega (arith, i_in)) (omega (arith, j_in)) (sym a.1 ∙ same ∙ b.1)
      ]
    ]) in
    omega (arith, rest)

module _ (tree : Tree) (good : Sound tree) where
  zero_by : (o : Option Node) → node_at tree 0 ≡ o → o ≡ None
  zero_by None is = refl
  zero_by (Some node) is = let least = (good.files 0 node is).least in absurd (omega (arith, least))

  -- 0 is no file's number, and its parent is 0 again
  pub zero_stays : (steps : ℕ) → ancestor tree steps 0 ≡ 0
  zero_stays zero = refl
  zero_stays (suc steps) =
      ap (λ o. ancestor tree steps (parent_in o)) (zero_by (node_at tree 0) refl) ∙ zero_stays steps

  -- the ancestors of an ancestor
  pub along : (first more q : ℕ) → ancestor tree (first + more) q ≡ ancestor tree more (ancestor tree first q)
  along zero more q = let same : zero + more ≡ more = omega arith in ap (λ n. ancestor tree n q) same
  along (suc first) more q =
      let same : suc first + more ≡ suc (first + more) = omega arith in
      ap (λ n. ancestor tree n q) same ∙ along first more (parent_in (node_at tree q))

  module _ (file number : ℕ) (some : 0 < file) (outside : is_within tree file number ≡ false) where
    abbrev above : ℕ → ℕ
    above steps = ancestor tree steps number

    not_in_few_steps : (steps : ℕ) → steps < tree.geometry.inodes → above steps ≢ file
    not_in_few_steps steps below same =
        let all = tree.geometry.inodes in
        let long = length-range_with_len 0 all in
        let at = get_or-range_with_len 0 all steps 0 below in
        let here : get_or (range_with_len 0 all) steps 0 ≡ steps = omega (arith, at) in
        let yes = list_any_at (λ s. nat_eq (above s) file) (range_with_len 0 all) steps 0 (omega
        (arith, long, below))
        (ap (λ s. nat_eq (above s) file) here ∙ is_equal (above steps) file same) in
        let never : true ≡ false = sym yes ∙ outside in cc

    -- on the way to it each ancestor is a file
    record Between (steps : ℕ) : Type 0 where
      positive : 0 < above steps
      small : above steps < tree.geometry.inodes

    between_by : (steps last : ℕ) (o : Option Node) → node_at tree (above steps) ≡ o → steps < last
        → above last ≡ file → Between steps
    between_by steps last None is before there =
        let more = last - (steps + 1) in
        let to : last ≡ steps + suc more = omega (arith, before) in
        let nothing : above last ≡ 0 =
        ap above to ∙ along steps (suc more) number ∙ ap (λ p. ancestor tree more (parent_in p)) is
        ∙ zero_stays more in
        absurd (omega (arith, nothing, there, some))
    between_by steps last (Some node) is before there =
        let at = good.files (above steps) node is in record { positive = at.least; small = at.most }

    between : (steps last : ℕ) → steps < last → above last ≡ file → Between steps
    between steps last before there = between_by steps last (node_at tree (above steps)) refl before there

    -- a way that comes twice to one place is the same without the round
    shorter : (i j last : ℕ) → i < j → j ≤ last → above i ≡ above j → above (last - (j - i)) ≡ above last
    shorter i j last before within same =
        let more = last - j in
        let short : last - (j - i) ≡ i + more = omega (arith, before, within) in
        let whole : last ≡ j + more = omega (arith, within) in
        ap above short ∙ along i more number ∙ ap (ancestor tree more) same ∙ sym (along j more number)
        ∙ ap above (sym whole)

    never : (bound steps : ℕ) → steps < bound → above steps ≢ file
    never zero steps below there = absurd (omega (arith, below))
    never (suc bound) steps below there =
        elim (cases_lt steps tree.geometry.inodes) [
          | inl few_steps ↦ not_in_few_steps steps few_steps there
          | inr many_steps ↦
              let all = tree.geometry.inodes in
              let least = good.geometry.inodes in
              let into : (i : ℕ) → i < all → above i - 1 < all - 1 = λ i inside.
              let b = between i steps (omega (arith, inside, many_steps)) there in
              let positive = b.positive in
              let small = b.small in
              omega (arith, positive, small) in
              let apart : (i j : ℕ) → i < j → j < all → above i - 1 ≡ above j - 1 → ⊥ =
              λ i j before inside same.
              let a = (between i steps (omega (arith, before, inside, many_steps)) there).positive in
              let b = (between j steps (omega (arith, inside, many_steps)) there).positive in
              never bound (steps - (j - i)) (omega (arith, below, before, inside, many_steps))
              (shorter i j steps before (omega (arith, inside, many_steps)) (omega (arith, same, a, b)) ∙ there) in
              let one : (i j : ℕ) → i < all → j < all → above i - 1 ≡ above j - 1 → i ≡ j =
              λ i j i_in j_in same.
              elim (cases_lt i j) [
                | inl before ↦ absurd (apart i j before j_in same)
                | inr not_before ↦ elim (cases_lt j i) [
                  | inl after ↦ absurd (apart j i after i_in (sym same))
                  | inr not_after ↦ omega (arith, not_before, not_after)
                ]
              ] in
              let many = no_more all (all - 1) (λ i. above i - 1) into one in
              absurd (omega (arith, many, least))
        ]

    -- However many steps to the parent are made, the file isn't reached.
    pub never_reached : (steps : ℕ) → above steps ≢ file
    never_reached steps = never (suc steps) steps (omega arith)
