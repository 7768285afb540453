-- The blocks of a file are what was met of it, in whatever order.
use Rattle.std.proofs.Common.{◌≡◌, ℕ, ◌+◌, ◌<◌, ◌≤◌, sym, ap, ◌∙◌, refl, subst, Bool, true, false, cond, ◌||◌}
use Rattle.std.proofs.Common.{List, [], ◌∷◌, ◌++◌, filter, length, length-append, nat_eq, not, get_or, Some, Ok, arith}
use Rattle.std.proofs.lemmas.List.{append_assoc}
use Rattle.std.proofs.lemmas.List.Elements.{filter-append}
use Rattle.std.proofs.lemmas.List.Folds.{list_any-append}
use Rattle.std.proofs.lemmas.List.Sums.{sum_by-append}
use Rattle.disk.specs.Crash.{Image}
use Rattle.layout.specs.declared.inode.Inode.{Inode}
use Rattle.layout.specs.Decode.{doubled_in, numbers_in, numbers_of, pointer_blocks}
use Rattle.layout.specs.Owners.{owned_by}
use Rattle.layout.proofs.FileNumbers.{in_parts, pointers_are}
use Rattle.layout.proofs.NumbersIn.{no_double_left, none_left}
use Rattle.image_read.specs.ImageCounts.Tally.{IsOwned, Owned, is_in, times}
use Rattle.image_read.specs.Counts.Adds.{is_some}
use Rattle.image_read.specs.Files.RowNumbers.{numbers_before_double}
use Rattle.image_read.proofs.FilesLemmas.Rows.{rows_more, rows_of}
use Rattle.image_contents.specs.Bodies.Inner.{below_of}

any_swapped : (p a b s : Bool) → (p || a || b || s) ≡ (p || b || a || s)
any_swapped true true true s = refl
any_swapped true true false s = refl
any_swapped true false true s = refl
any_swapped true false false s = refl
any_swapped false true true s = refl
any_swapped false true false s = refl
any_swapped false false true s = refl
any_swapped false false false s = refl

module _ (p a b s : List ℕ) where
  abbrev one : List ℕ
  one = p ++ a ++ b ++ s

  abbrev other : List ℕ
  other = p ++ b ++ a ++ s

  all_times : (x y z w : List ℕ) (n : ℕ) → times (x ++ y ++ z ++ w) n ≡ times x n + times y n + times z n + times w n
  all_times x y z w n =
      let first : times (x ++ y ++ z ++ w) n ≡ times (x ++ y ++ z) n + times w n =
      sum_by-append (λ m. cond (nat_eq m n) 1 0) (x ++ y ++ z) w in
      let second : times (x ++ y ++ z) n ≡ times (x ++ y) n + times z n =
      sum_by-append (λ m. cond (nat_eq m n) 1 0) (x ++ y) z in
      let third : times (x ++ y) n ≡ times x n + times y n =
      sum_by-append (λ m. cond (nat_eq m n) 1 0) x y in
      omega (arith, first, second, third)

  same_times : (n : ℕ) → times one n ≡ times other n
  same_times n =
      let here = all_times p a b s n in
      let there = all_times p b a s n in
      omega (arith, here, there)

  all_in : (x y z w : List ℕ) (n : ℕ) → is_in (x ++ y ++ z ++ w) n ≡ (is_in x n || is_in y n || is_in z n || is_in w n)
  all_in x y z w n =
      list_any-append (λ m. nat_eq m n) (x ++ y ++ z) w
      ∙ ap (λ t. t || is_in w n) (list_any-append (λ m. nat_eq m n) (x ++ y) z
      ∙ ap (λ t. t || is_in z n) (list_any-append (λ m. nat_eq m n) x y))

  same_in : (n : ℕ) → is_in one n ≡ is_in other n
  same_in n = all_in p a b s n ∙ any_swapped (is_in p n) (is_in a n) (is_in b n) (is_in s n) ∙ sym (all_in p b a s n)

  all_long : (x y z w : List ℕ) → length (x ++ y ++ z ++ w) ≡ length x + length y + length z + length w
  all_long x y z w =
      let first = length-append (x ++ y ++ z) w in
      let second = length-append (x ++ y) z in
      let third = length-append x y in
      omega (arith, first, second, third)

  same_long : length one ≡ length other
  same_long =
      let here = all_long p a b s in
      let there = all_long p b a s in
      omega (arith, here, there)

  exchanged : (owned : Owned) → IsOwned one owned → IsOwned other owned
  exchanged owned is = record {
    has = λ number less. is.has number less ∙ same_in number;
    once = λ no number. subst (λ k. k ≤ 1) (same_times number) (is.once no number);
    count = λ no. is.count no ∙ same_long;
    twice = λ yes. let found = is.twice yes in (found.0, subst (λ k. 2 ≤ k) (same_times found.0) found.1);
  }

-- nothing is met below a double indirect block that isn't there
pub nothing_below : (content : Image) (double : ℕ) → nat_eq double 0 ≡ true → below_of content double ≡ []
nothing_below content double none =
    (λ i. cond (not (none i)) (double ∷ inner) inner ++ no_double_left content double none i)
    ∙ ap (λ l. l ++ []) (none_left content double none)
  where
    inner : List ℕ
    inner = filter is_some (numbers_in content double)

-- one inner block more
pub met_more : (content : Image) (inner met : List ℕ) (index_within : ℕ) → index_within < length inner
    → (met ++ filter is_some (rows_of content inner index_within))
    ++ filter is_some (numbers_in content (get_or inner index_within 0))
    ≡ met ++ filter is_some (rows_of content inner (index_within + 1))
met_more content inner met index_within less =
    append_assoc met (filter is_some (rows_of content inner index_within))
    (filter is_some (numbers_in content (get_or inner index_within 0)))
    ∙ ap (λ l. met ++ l)
    (sym (filter-append is_some (rows_of content inner index_within) (numbers_in content (get_or inner index_within 0)))
    ∙ ap (filter is_some) (sym (rows_more content inner index_within less)))

module _ (content : Image) (inode : Inode) where
  abbrev indirect : List ℕ
  indirect = filter is_some (inode.indirect ∷ [])

  abbrev lower_part : List ℕ
  lower_part = filter is_some (numbers_before_double content inode)

  abbrev pointers : List ℕ
  pointers = filter is_some (inode.double ∷ numbers_in content inode.double)

  abbrev further : List ℕ
  further = filter is_some (doubled_in content inode.double)

  owned_in_parts : owned_by content (Ok (Some inode)) ≡ (indirect ++ pointers) ++ (lower_part ++ further)
  owned_in_parts =
      filter-append is_some (pointer_blocks content inode) (numbers_of content inode)
      ∙ (λ i. filter is_some (pointers_are content inode i) ++ filter is_some (in_parts content inode i))
      ∙ (λ i. filter-append is_some (inode.indirect ∷ []) (inode.double ∷ numbers_in content inode.double) i
      ++ filter-append is_some (numbers_before_double content inode) (doubled_in content inode.double) i)

  -- the numbers in front of the double indirect block, and then what that reaches
  pub all_met : (met : List ℕ) (owned : Owned)
      → IsOwned (met ++ filter is_some (inode.indirect ∷ numbers_before_double content inode) ++ below_of content inode.double) owned
      → IsOwned (met ++ owned_by content (Ok (Some inode))) owned
  all_met met owned is =
      subst (λ l. IsOwned l owned) (sym (then_so ∙ back met indirect pointers lower_part further))
      (exchanged (met ++ indirect) lower_part pointers further owned (subst (λ l. IsOwned l owned) at_first is))
    where
      then_so : met ++ owned_by content (Ok (Some inode)) ≡ met ++ ((indirect ++ pointers) ++ (lower_part ++ further))
      then_so = ap (λ l. met ++ l) owned_in_parts

      regrouped : (m a b c d : List ℕ) → (m ++ (a ++ b)) ++ (c ++ d) ≡ m ++ a ++ b ++ c ++ d
      regrouped m a b c d = simp append_assoc

      back : (m a b c d : List ℕ) → m ++ ((a ++ b) ++ (c ++ d)) ≡ m ++ a ++ b ++ c ++ d
      back m a b c d = simp append_assoc

      at_first : met ++ filter is_some (inode.indirect ∷ numbers_before_double content inode) ++ below_of content inode.double
          ≡ met ++ indirect ++ lower_part ++ pointers ++ further
      at_first =
          ap (λ l. met ++ l ++ (pointers ++ further))
          (filter-append is_some (inode.indirect ∷ []) (numbers_before_double content inode))
          ∙ regrouped met indirect lower_part pointers further
