-- Files whose blocks have no two owners use no more blocks than there are.
use Rattle.std.proofs.Common.{◌≡◌, ℕ, zero, suc, ◌+◌, ◌-◌, ◌<◌, ◌≤◌, sym, ap, ◌∙◌, refl, subst, Bool, true, false}
use Rattle.std.proofs.Common.{List, [], ◌∷◌, ◌++◌, length, nat_eq, nat_lt, nat_le, sum_by, Option, Some, None, arith}
use Rattle.std.specs.List.{AllByRecursion, flat_map, range_with_len}
use Rattle.std.proofs.lemmas.Bool.{leb-true, lt-ltb, ltb-true, ne_eqb}
use Rattle.std.proofs.lemmas.List.Concat.{length-flat_map}
use Rattle.std.proofs.lemmas.List.Sums.{sum_by-cons}
use Rattle.disk.specs.Crash.{Image}
use Rattle.nfs_spec.specs.Model.Cost.{cost}
use Rattle.nfs_spec.specs.Model.Node.{Node}
use Rattle.nfs_spec.specs.Model.Tree.{Tree, cost_at, node_at, used}
use Rattle.nfs_spec.specs.Model.Tree as model
use Rattle.nfs_spec.proofs.ProceduresLemmas.Parts.{part}
use Rattle.layout.specs.declared.geometry.Geometry.{Geometry}
use Rattle.layout.specs.Geometry.{data_at}
use Rattle.layout.specs.Holds.{Holds}
use Rattle.layout.specs.Owners.{owned, owned_by}
use Rattle.layout.specs.Parts.{Parts, parts_of}
use Rattle.layout.specs.Places.{is_data}
use Rattle.inode.proofs.AllTests.{all_two}
use Rattle.bitmap.proofs.Held.{are_data, has_cost}
use Rattle.bitmap.proofs.MapSums.{sum_of}
use Rattle.bitmap.proofs.Ranges.{both_sums, counts_below, is_below, met_once, one_if, same_sums, times}
use Rattle.image_read.proofs.LawsLemmas.Made.{none_past}

-- sums of what is nowhere more
less_sums : (f h : ℕ → ℕ) (a k : ℕ) → ((n : ℕ) → a ≤ n → n < a + k → f n ≤ h n)
    → sum_by f (range_with_len a k) ≤ sum_by h (range_with_len a k)
less_sums f h a zero each = omega arith
less_sums f h a (suc k) each =
    let here = each a (omega arith) (omega arith) in
    let rest = less_sums f h (a + 1) k (λ n from to. each n (omega (arith, from)) (omega (arith, to))) in
    let one = sum_by-cons f a (range_with_len (a + 1) k) in
    let two = sum_by-cons h a (range_with_len (a + 1) k) in
    omega (arith, here, rest, one, two)

all_appended : (P : ℕ → Type 0) (xs ys : List ℕ) → AllByRecursion P xs → AllByRecursion P ys
    → AllByRecursion P (xs ++ ys)
all_appended P [] ys first rest = rest
all_appended P (x ∷ xs) ys first rest = (first.0, all_appended P xs ys first.1 rest)

all_flat : (P : ℕ → Type 0) (f : ℕ → List ℕ) (a k : ℕ)
    → ((n : ℕ) → n < a + k → AllByRecursion P (f n)) → AllByRecursion P (flat_map f (range_with_len a k))
all_flat P f a zero each = tt
all_flat P f a (suc k) each =
    all_appended P (f a) (flat_map f (range_with_len (a + 1) k)) (each a (omega arith))
    (all_flat P f (a + 1) k (λ n less. each n (omega (arith, less))))

all_so : (P Q : ℕ → Type 0) (xs : List ℕ) → ((x : ℕ) → P x → Q x) → AllByRecursion P xs → AllByRecursion Q xs
all_so P Q [] so all = tt
all_so P Q (x ∷ xs) so all = (so x all.0, all_so P Q xs so all.1)

-- a number of which none in the list is, is there no time
never : (P : ℕ → Type 0) (n : ℕ) → (P n → ⊥) → (xs : List ℕ) → AllByRecursion P xs → times xs n ≡ 0
never P n not [] all = refl
never P n not (x ∷ xs) all =
    let rest = never P n not xs all.1 in
    let here = ap one_if (ne_eqb x n (λ is. not (subst P is all.0))) in
    let both = sum_by-cons (λ one. one_if (nat_eq one n)) x xs in
    omega (arith, rest, here, both)

module _ (g : Geometry) (blocks : Image) (tree : Tree) (holds : Holds g blocks tree) where
  abbrev parts : Parts
  parts = parts_of g blocks

  abbrev has : List ℕ
  has = owned g parts

  owned_data : AllByRecursion (λ b. is_data g b ≡ true) has
  unfolding owned
  owned_data = all_flat (λ b. is_data g b ≡ true) (λ n. owned_by parts.content (parts.table n)) 0 g.inodes
      (λ n less. are_data g blocks tree holds n (omega (arith, less)) (parts.table n) refl)

  costs : (n : ℕ) → n < g.inodes
      → length (owned_by parts.content (parts.table n))
      ≡ part (λ (e : ℕ × Node). cost e.1.body) n (node_at tree n)
  costs n less =
      has_cost g blocks tree holds n less (parts.table n) refl
      ∙ ap (λ o. cost_at o) (sym (holds.parts.has.files n)) ∙ as_part (node_at tree n)
    where
      as_part : (o : Option Node) → cost_at o ≡ part (λ (e : ℕ × Node). cost e.1.body) n o
      as_part None = refl
      as_part (Some node) = refl

  -- the files use what is owned
  pub used_are : used tree ≡ length has
  unfolding owned
  used_are =
      let all = sum_of (λ (e : ℕ × Node). cost e.1.body) g.inodes tree.nodes
      (λ n past. holds.parts.has.files n ∙ none_past g blocks n past) in
      let each = same_sums (λ n. length (owned_by parts.content (parts.table n)))
      (λ n. part (λ (e : ℕ × Node). cost e.1.body) n (node_at tree n)) 0 g.inodes (λ n from to. costs n (omega (arith, to))) in
      all ∙ sym each ∙ sym (length-flat_map (λ n. owned_by parts.content (parts.table n))
      (range_with_len 0 g.inodes))

  in_data : (n : ℕ) → is_data g n ≡ true → (data_at g.blocks g.inodes ≤ n) × (n < g.blocks)
  in_data n is =
      let both = all_two (nat_le (data_at g.blocks g.inodes) n) (nat_lt n g.blocks) is in
      (leb-true (data_at g.blocks g.inodes) n both.0, ltb-true n g.blocks both.1)

  -- a block is owned, or lies before the data, or neither
  one_of : (n : ℕ) (low : Bool) → nat_lt n (data_at g.blocks g.inodes) ≡ low
      → times has n + one_if low ≤ 1
  one_of n true is =
      let under = ltb-true n (data_at g.blocks g.inodes) is in
      let none = never (λ b. is_data g b ≡ true) n (λ lies. let from = (in_data n lies).0 in
      omega (arith, from, under)) has owned_data in
      omega (arith, none)
  one_of n false is = let once = holds.parts.marked.once n in omega (arith, once)

  pub there_is_space : used tree ≤ tree.geometry.data_blocks
  there_is_space =
      let size = g.blocks in
      let first = data_at g.blocks g.inodes in
      let fits = g.lawful.1.3 in
      let geometry : tree.geometry.data_blocks ≡ g.blocks - first =
      ap (λ (one : model.Geometry). one.data_blocks) holds.parts.geometry in
      let met = met_once size has (all_so (λ b. is_data g b ≡ true) (λ b. b < size) has
      (λ b is. (in_data b is).1) owned_data) in
      let both = both_sums (times has) (is_below first) (range_with_len 0 size) in
      let low = (counts_below first size).0 (omega (arith, fits)) in
      let all = (counts_below size size).0 (omega arith) in
      let most = less_sums (λ n. times has n + is_below first n) (is_below size) 0 size
      (λ n from to. at_most n (omega (arith, to))) in
      omega (arith, used_are, met, both, low, all, most, geometry)
    where
      at_most : (n : ℕ) → n < g.blocks → times has n + is_below (data_at g.blocks g.inodes) n ≤ is_below g.blocks n
      at_most n less =
          let here = ap one_if (lt-ltb n g.blocks less) in
          let one = one_of n (nat_lt n (data_at g.blocks g.inodes)) refl in
          omega (arith, here, one)
