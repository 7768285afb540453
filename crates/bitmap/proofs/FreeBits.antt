-- The clear bits of both bitmaps, counted.
use Rattle.std.proofs.Common.{◌≡◌, ℕ, ◌+◌, ◌*◌, ◌-◌, ◌<◌, ◌≤◌, sym, ap, ◌∙◌, refl, subst, Bool, true, false, cond, not}
use Rattle.std.proofs.Common.{zero, suc}
use Rattle.std.proofs.Common.{◌||◌, ◌&&◌, List, [], ◌∷◌, ◌++◌, length, nat_eq, nat_lt, nat_le, sum_by, arith}
use Rattle.std.proofs.Common.{Option, Some, None, Result, Ok, Err}
use Rattle.std.specs.FinMap.{entries, len, len-entries}
use Rattle.std.specs.List.{AllByRecursion, flat_map, list_any, range_with_len}
use Rattle.std.proofs.lemmas.Bool.{eqb-true, le-ltb, leb-false, leb-true, lt-ltb, ltb-true, ne_eqb}
use Rattle.std.proofs.lemmas.List.Concat.{length-flat_map}
use Rattle.std.proofs.lemmas.List.Sums.{sum_by-cons}
use Rattle.base.specs.declared.TheConstants.{BITS_PER_BLOCK, FIRST_HOME_BLOCK}
use Rattle.disk.specs.Crash.{Image}
use Rattle.nfs_spec.specs.Model.Cost.{cost}
use Rattle.nfs_spec.specs.Model.Node.{Node}
use Rattle.nfs_spec.specs.Model.Tree.{Tree, cost_at, free, node_at, used}
use Rattle.nfs_spec.specs.Model.Tree as model
use Rattle.nfs_spec.specs.Procedures.FsStat.{unused_numbers}
use Rattle.nfs_spec.proofs.ProceduresLemmas.Parts.{part}
use Rattle.layout.specs.declared.fault.LayoutFault.{LayoutFault}
use Rattle.layout.specs.declared.fault.LayoutFault.TheVariants.{Range}
use Rattle.layout.specs.declared.geometry.Geometry.{Geometry}
use Rattle.layout.specs.declared.inode.Inode.{Inode}
use Rattle.layout.specs.Decode.{file_of, inode_at}
use Rattle.layout.specs.Geometry.{bitmap_blocks, data_at, inode_bitmap_at}
use Rattle.layout.specs.Owners.{is_marked_block, is_marked_inode, is_used, owned, owned_by}
use Rattle.layout.specs.Parts.{Parts, bit_at, content_in, parts_of}
use Rattle.layout.specs.Places.{is_data}
use Rattle.layout.specs.Holds.{Holds}
use Rattle.layout.specs.Stands.{geometry_of}
use Rattle.inode.proofs.AllTests.{all_two}
use Rattle.bitmap.specs.Clear.{clear_of}
use Rattle.bitmap.proofs.Held.{are_data, has_cost}
use Rattle.bitmap.proofs.MapSums.{sum_of}
use Rattle.bitmap.proofs.Ranges.{both_sums, counts_below, is_below, met_once, one_if, same_sums, times}

-- ---- of a list

all_appended : (P : ℕ → Type 0) (xs ys : List ℕ) → AllByRecursion P xs → AllByRecursion P ys
    → AllByRecursion P (xs ++ ys)
all_appended P [] ys first rest = rest
all_appended P (x ∷ xs) ys first rest = (first.0, all_appended P xs ys first.1 rest)

all_flat : (P : ℕ → Type 0) (f : ℕ → List ℕ) (a k : ℕ)
    → ((n : ℕ) → n < a + k → AllByRecursion P (f n)) → AllByRecursion P (flat_map f (range_with_len a k))
all_flat P f a zero each = tt
all_flat P f a (suc k) each =
    all_appended P (f a) (flat_map f (range_with_len (a + 1) k)) (each a (omega arith))
    (all_flat P f (a + 1) k (λ n less. each n (omega (arith, less))))

all_so : (P Q : ℕ → Type 0) (xs : List ℕ) → ((x : ℕ) → P x → Q x) → AllByRecursion P xs → AllByRecursion Q xs
all_so P Q [] so all = tt
all_so P Q (x ∷ xs) so all = (so x all.0, all_so P Q xs so all.1)

-- a number of which none in the list is, is there no time
never : (P : ℕ → Type 0) (n : ℕ) → (P n → ⊥) → (xs : List ℕ) → AllByRecursion P xs → times xs n ≡ 0
never P n not [] all = refl
never P n not (x ∷ xs) all =
    let rest = never P n not xs all.1 in
    let here = ap one_if (ne_eqb x n (λ is. not (subst P is all.0))) in
    let both = sum_by-cons (λ one. cond (nat_eq one n) 1 0) x xs in
    omega (arith, rest, here, both)

some_times : (n : ℕ) (xs : List ℕ) → list_any (λ one. nat_eq one n) xs ≡ true → 1 ≤ times xs n
some_times n [] e = cc
some_times n (x ∷ xs) e = by_first (nat_eq x n) refl (some_times n xs)
  where
    by_first : (b : Bool) → nat_eq x n ≡ b → (list_any (λ one. nat_eq one n) xs ≡ true → 1 ≤ times xs n)
        → 1 ≤ times (x ∷ xs) n
    by_first true is more =
        let here = ap one_if is in
        let both = sum_by-cons (λ one. cond (nat_eq one n) 1 0) x xs in
        omega (arith, here, both)
    by_first false is more =
        let both = sum_by-cons (λ one. cond (nat_eq one n) 1 0) x xs in
        let rest = more (ap (λ b. b || list_any (λ one. nat_eq one n) xs) (sym is) ∙ e) in
        omega (arith, both, rest)

no_times : (n : ℕ) (xs : List ℕ) → list_any (λ one. nat_eq one n) xs ≡ false → times xs n ≡ 0
no_times n [] e = refl
no_times n (x ∷ xs) e =
    let parts = or_false (nat_eq x n) (list_any (λ one. nat_eq one n) xs) e in
    let here = ap one_if parts.0 in
    let both = sum_by-cons (λ one. cond (nat_eq one n) 1 0) x xs in
    let rest = no_times n xs parts.1 in
    omega (arith, here, both, rest)
  where
    or_false : (a b : Bool) → (a || b) ≡ false → (a ≡ false) × (b ≡ false)
    or_false true b e = cc
    or_false false b e = (refl, e)

module _ (g : Geometry) (blocks : Image) (tree : Tree) (holds : Holds g blocks tree) where
  abbrev parts : Parts
  parts = parts_of g blocks

  abbrev first_data : ℕ
  first_data = data_at g.blocks g.inodes

  geometry_is : tree.geometry ≡ geometry_of g
  geometry_is = holds.parts.geometry

  data_are : tree.geometry.data_blocks ≡ g.blocks - first_data
  data_are = ap (λ (one : model.Geometry). one.data_blocks) geometry_is

  inodes_are : tree.geometry.inodes ≡ g.inodes
  inodes_are = ap (λ (one : model.Geometry). one.inodes) geometry_is

  pub data_there : first_data < g.blocks
  data_there = let has_space = g.lawful.1.3 in omega (arith, has_space)

  some_inodes : 0 < g.inodes
  some_inodes = let some = g.lawful.1.0 in omega (arith, some)

  -- ---- what is owned

  abbrev has : List ℕ
  has = owned g parts

  -- past the last inode and under 0 there is no file
  no_file : (n : ℕ) → g.inodes ≤ n → node_at tree n ≡ None
  no_file n past =
      holds.parts.has.files n
      ∙ ap (λ b. file_of g.inodes (content_in g blocks) (cond b (inode_at g blocks n) (Err Range)))
      (le-ltb n g.inodes past)

  owned_data : AllByRecursion (λ b. is_data g b ≡ true) has
  unfolding owned
  owned_data = all_flat (λ b. is_data g b ≡ true) (λ n. owned_by parts.content (parts.table n)) 0 g.inodes
      (λ n less. are_data g blocks tree holds n (omega (arith, less)) (parts.table n) refl)

  in_data : (n : ℕ) → is_data g n ≡ true → (first_data ≤ n) × (n < g.blocks)
  in_data n is =
      let both = all_two (nat_le first_data n) (nat_lt n g.blocks) is in
      (leb-true first_data n both.0, ltb-true n g.blocks both.1)

  costs : (n : ℕ) → n < g.inodes
      → length (owned_by parts.content (parts.table n))
      ≡ part (λ (e : ℕ × Node). cost e.1.body) n (node_at tree n)
  costs n less =
      has_cost g blocks tree holds n less (parts.table n) refl
      ∙ ap (λ o. cost_at o) (sym (holds.parts.has.files n)) ∙ as_part (node_at tree n)
    where
      as_part : (o : Option Node) → cost_at o ≡ part (λ (e : ℕ × Node). cost e.1.body) n o
      as_part None = refl
      as_part (Some node) = refl

  -- the files use what is owned
  used_are : used tree ≡ length has
  unfolding owned
  used_are =
      let all = sum_of (λ (e : ℕ × Node). cost e.1.body) g.inodes tree.nodes no_file in
      let each = same_sums (λ n. length (owned_by parts.content (parts.table n)))
      (λ n. part (λ (e : ℕ × Node). cost e.1.body) n (node_at tree n)) 0 g.inodes (λ n from to. costs n (omega (arith, to))) in
      all ∙ sym each ∙ sym (length-flat_map (λ n. owned_by parts.content (parts.table n))
      (range_with_len 0 g.inodes))

  -- ---- the bits of blocks

  abbrev block_bits : ℕ
  block_bits = BITS_PER_BLOCK * bitmap_blocks g.blocks

  all_bits : g.blocks ≤ block_bits
  all_bits = omega arith

  abbrev block_bit_free : ℕ → ℕ
  block_bit_free n = one_if (not (bit_at blocks FIRST_HOME_BLOCK n))

  marked_as : (n : ℕ) → n < block_bits → bit_at blocks FIRST_HOME_BLOCK n ≡ is_marked_block g parts n
  marked_as n less =
      ap (λ b. b && bit_at blocks FIRST_HOME_BLOCK n) (sym (lt-ltb n block_bits less))
      ∙ holds.parts.marked.blocks_marked n less

  abbrev is_had : ℕ → Bool
  is_had n = list_any (λ one. nat_eq one n) has

  by_tests : (n : ℕ) (low high any : Bool) → nat_lt n first_data ≡ low → nat_le g.blocks n ≡ high
      → is_had n ≡ any
      → one_if (not (low || high || any)) + times has n + one_if low ≡ is_below g.blocks n
  by_tests n true high any is_low is_high is_any =
      let under = ltb-true n first_data is_low in
      let none = never (λ b. is_data g b ≡ true) n (λ is. let from = (in_data n is).0 in
      omega (arith, from, under)) has owned_data in
      let here = ap one_if (lt-ltb n g.blocks (omega (arith, under, data_there))) in
      omega (arith, none, here)
  by_tests n false true any is_low is_high is_any =
      let past = leb-true g.blocks n is_high in
      let none = never (λ b. is_data g b ≡ true) n (λ is. let to = (in_data n is).1 in
      omega (arith, to, past)) has owned_data in
      let here = ap one_if (le-ltb n g.blocks past) in
      omega (arith, none, here)
  by_tests n false false true is_low is_high is_any =
      let under = leb-false g.blocks n is_high in
      let here = ap one_if (lt-ltb n g.blocks under) in
      let once = holds.parts.marked.once n in
      let some = some_times n has is_any in
      omega (arith, here, once, some)
  by_tests n false false false is_low is_high is_any =
      let under = leb-false g.blocks n is_high in
      let here = ap one_if (lt-ltb n g.blocks under) in
      let none = no_times n has is_any in
      omega (arith, here, none)

  each_block : (n : ℕ) → n < block_bits
      → block_bit_free n + times has n + is_below first_data n ≡ is_below g.blocks n
  each_block n less =
      ap (λ b. one_if (not b) + times has n + is_below first_data n) (marked_as n less)
      ∙ by_tests n (nat_lt n first_data) (nat_le g.blocks n) (is_had n) refl refl refl

  pub free_blocks : clear_of blocks FIRST_HOME_BLOCK (bitmap_blocks g.blocks) ≡ free tree
  free_blocks =
      let range = range_with_len 0 block_bits in
      let each = same_sums (λ n. block_bit_free n + times has n + is_below first_data n) (is_below g.blocks)
      0 block_bits (λ n from to. each_block n (omega (arith, to))) in
      let outer = both_sums (λ n. block_bit_free n + times has n) (is_below first_data) range in
      let inner = both_sums block_bit_free (times has) range in
      let met = met_once block_bits has (all_so (λ b. is_data g b ≡ true) (λ b. b < block_bits) has
      (λ b is. let to = (in_data b is).1 in omega (arith, to, all_bits)) owned_data) in
      let low = (counts_below first_data block_bits).0 (omega (arith, data_there, all_bits)) in
      let high = (counts_below g.blocks block_bits).0 all_bits in
      omega (arith, each, outer, inner, met, low, high, used_are, data_are, data_there)

  -- ---- the bits of inodes

  abbrev inode_bits : ℕ
  inode_bits = BITS_PER_BLOCK * bitmap_blocks g.inodes

  all_inode_bits : g.inodes ≤ inode_bits
  all_inode_bits = omega arith

  abbrev inode_bit_free : ℕ → ℕ
  inode_bit_free n = one_if (not (bit_at blocks (inode_bitmap_at g.blocks) n))

  abbrev counted : ℕ → ℕ
  counted n = part (λ (e : ℕ × Node). 1) n (node_at tree n)

  inode_marked_as : (n : ℕ) → n < inode_bits
      → bit_at blocks (inode_bitmap_at g.blocks) n ≡ is_marked_inode g parts n
  inode_marked_as n less =
      ap (λ b. b && bit_at blocks (inode_bitmap_at g.blocks) n) (sym (lt-ltb n inode_bits less))
      ∙ holds.parts.marked.inodes_marked n less

  -- a file is counted where its inode is used
  counted_as : (n : ℕ) → counted n ≡ one_if (is_used (parts.table n))
  counted_as n =
      ap (part (λ (e : ℕ × Node). 1) n) (holds.parts.has.files n) ∙ of_table (parts.table n)
    where
      of_table : (r : Result (Option Inode) LayoutFault)
          → part (λ (e : ℕ × Node). 1) n (file_of g.inodes parts.content r) ≡ one_if (is_used r)
      of_table (Ok (Some inode)) = refl
      of_table (Ok None) = refl
      of_table (Err fault) = refl

  zero_unused : counted 0 ≡ 0
  zero_unused = ap (part (λ (e : ℕ × Node). 1) 0) holds.parts.unnumbered

  past_unused : (n : ℕ) → g.inodes ≤ n → counted n ≡ 0
  past_unused n past = ap (part (λ (e : ℕ × Node). 1) n) (no_file n past)

  inode_by_tests : (n : ℕ) (none high in_use : Bool) → nat_eq n 0 ≡ none → nat_le g.inodes n ≡ high
      → is_used (parts.table n) ≡ in_use
      → one_if (not (none || high || in_use)) + counted n + is_below 1 n ≡ is_below g.inodes n
  inode_by_tests n true high in_use is_none is_high is_in_use =
      let zero_is = eqb-true n 0 is_none in
      let none = ap counted zero_is ∙ zero_unused in
      let first = ap one_if (lt-ltb n 1 (omega (arith, zero_is))) in
      let here = ap one_if (lt-ltb n g.inodes (omega (arith, zero_is, some_inodes))) in
      omega (arith, none, first, here)
  inode_by_tests n false true in_use is_none is_high is_in_use =
      let past = leb-true g.inodes n is_high in
      let none = past_unused n past in
      let first = ap one_if (le-ltb n 1 (omega (arith, past, some_inodes))) in
      let here = ap one_if (le-ltb n g.inodes past) in
      omega (arith, none, first, here)
  inode_by_tests n false false in_use is_none is_high is_in_use =
      let under = leb-false g.inodes n is_high in
      let here = ap one_if (lt-ltb n g.inodes under) in
      let first = ap one_if (le-ltb n 1 (positive n is_none)) in
      let count = counted_as n ∙ ap one_if is_in_use in
      let either = one_or_other in_use in
      omega (arith, here, first, count, either)
    where
      positive : (n : ℕ) → nat_eq n 0 ≡ false → 1 ≤ n
      positive zero e = cc
      positive (suc n) e = omega arith

      one_or_other : (b : Bool) → one_if (not b) + one_if b ≡ 1
      one_or_other true = refl
      one_or_other false = refl

  each_inode : (n : ℕ) → n < inode_bits → inode_bit_free n + counted n + is_below 1 n ≡ is_below g.inodes n
  each_inode n less =
      ap (λ b. one_if (not b) + counted n + is_below 1 n) (inode_marked_as n less)
      ∙ inode_by_tests n (nat_eq n 0) (nat_le g.inodes n) (is_used (parts.table n)) refl refl refl

  files_are : len tree.nodes ≡ sum_by counted (range_with_len 0 inode_bits)
  files_are =
      len-entries tree.nodes ∙ ones (entries tree.nodes)
      ∙ sum_of (λ (e : ℕ × Node). 1) inode_bits tree.nodes
      (λ n past. no_file n (omega (arith, past, all_inode_bits)))
    where
      ones : {X : Type 0} (xs : List X) → length xs ≡ sum_by (λ x. 1) xs
      ones [] = refl
      ones (x ∷ xs) = let rest = ones xs in omega (arith, rest, sum_by-cons (λ x. 1) x xs)

  pub free_numbers : clear_of blocks (inode_bitmap_at g.blocks) (bitmap_blocks g.inodes)
      ≡ unused_numbers tree
  free_numbers =
      let range = range_with_len 0 inode_bits in
      let each = same_sums (λ n. inode_bit_free n + counted n + is_below 1 n) (is_below g.inodes)
      0 inode_bits (λ n from to. each_inode n (omega (arith, to))) in
      let outer = both_sums (λ n. inode_bit_free n + counted n) (is_below 1) range in
      let inner = both_sums inode_bit_free counted range in
      let low = (counts_below 1 inode_bits).0 (omega (arith, some_inodes, all_inode_bits)) in
      let high = (counts_below g.inodes inode_bits).0 all_inode_bits in
      omega (arith, each, outer, inner, low, high, files_are, inodes_are)
