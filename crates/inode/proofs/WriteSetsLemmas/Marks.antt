-- The bitmap of blocks after one inode dropped and took blocks.
use Rattle.std.proofs.Common.{◌≡◌, ℕ, zero, suc, ◌+◌, ◌*◌, ◌<◌, ◌≤◌, inl, inr, sym, ap, ◌∙◌, refl, subst}
use Rattle.std.proofs.Common.{Bool, true, false, cond, ◌||◌, List, [], ◌∷◌, nat_eq, nat_lt, nat_le, sum_by}
use Rattle.std.proofs.Common.{count_by, arith}
use Rattle.std.specs.List.{list_any, range_with_len}
use Rattle.std.proofs.lemmas.Bool.{cases_eq, cases_lt, lt-ltb}
use Rattle.std.proofs.lemmas.List.Sums.{sum_by-cons}
use Rattle.base.specs.declared.TheConstants.{BITS_PER_BLOCK}
use Rattle.layout.specs.declared.geometry.Geometry.{Geometry}
use Rattle.layout.specs.Owners.{IsMarked, owned, owned_by, is_used, is_marked_block, is_marked_inode}
use Rattle.layout.specs.Parts.{Parts}
use Rattle.layout.specs.Geometry.{bitmap_blocks, data_at}
use Rattle.layout.proofs.Frame.{ChangesOne, changed_owners, counts}
use Rattle.layout.proofs.FreshFiles.{not_below}

-- how often a number is in a list
abbrev pub times : ℕ → List ℕ → ℕ
times number list = count_by (λ one. nat_eq one number) list

-- some element passes just where one or more do
any_more : (b any : Bool) (count : ℕ) → any ≡ nat_lt 0 count → (b || any) ≡ nat_lt 0 (cond b 1 0 + count)
any_more true any count rest = sym (lt-ltb 0 (1 + count) (omega arith))
any_more false any count rest = rest ∙ ap (nat_lt 0) (omega arith)

any_of : (p : ℕ → Bool) (xs : List ℕ) → list_any p xs ≡ nat_lt 0 (count_by p xs)
any_of p [] = refl
any_of p (x ∷ xs) = any_more (p x) (list_any p xs) (count_by p xs) (any_of p xs)
    ∙ ap (nat_lt 0) (sym (sum_by-cons (λ y. cond (p y) 1 0) x xs))

-- a part of a sum is no more than it
part : (f : ℕ → ℕ) (n a k : ℕ) → a ≤ n → n < a + k → f n ≤ sum_by f (range_with_len a k)
part f n a zero from to = absurd (omega (arith, from, to))
part f n a (suc k) from to =
    let here = sum_by-cons f a (range_with_len (a + 1) k) in
    elim (cases_eq a n) [
      | inl is ↦ let same : f a ≡ f n = ap f is in omega (arith, here, same)
      | inr not ↦ let rest : f n ≤ sum_by f (range_with_len (a + 1) k) = part f n (a + 1) k
          (later a n from not) (omega (arith, to)) in omega (arith, here, rest)
    ]
  where
    later : (a n : ℕ) → a ≤ n → (a ≡ n → ⊥) → a + 1 ≤ n
    later a n from not = elim
        (cases_lt a n) [
          | inl less ↦ omega (arith, less)
          | inr more ↦ absurd
              (not (omega (arith, from, more)))
        ]

-- What the bits of the new parts are, where inode n had some blocks and has others: each block that it took
-- was marked free.
pub record TakesAndDrops (g : Geometry) (old new : Parts) (n : ℕ) : Type 0 where
  -- it has no block twice
  pub once : (b : ℕ) → times b (owned_by new.content (new.table n)) ≤ 1
  -- what it took was free
  pub free : (b : ℕ) → 1 ≤ times b (owned_by new.content (new.table n))
      → times b (owned_by old.content (old.table n)) ≡ 0 → times b (owned g old) ≡ 0
  -- the bits of what it has are set, those of what it dropped are not, and no other has changed
  pub has : (b : ℕ) → b < BITS_PER_BLOCK * bitmap_blocks g.blocks
      → 1 ≤ times b (owned_by new.content (new.table n)) → new.block_bits b ≡ true
  pub dropped : (b : ℕ) → b < BITS_PER_BLOCK * bitmap_blocks g.blocks
      → times b (owned_by new.content (new.table n)) ≡ 0
      → 1 ≤ times b (owned_by old.content (old.table n)) → new.block_bits b
      ≡ (nat_lt b (data_at g.blocks g.inodes) || nat_le g.blocks b)
  pub others : (b : ℕ) → b < BITS_PER_BLOCK * bitmap_blocks g.blocks
      → times b (owned_by new.content (new.table n)) ≡ 0
      → times b (owned_by old.content (old.table n)) ≡ 0 → new.block_bits b ≡ old.block_bits b
  pub inodes : (m : ℕ) → (m ≡ n → ⊥) → new.inode_bits m ≡ old.inode_bits m
  pub itself : n < BITS_PER_BLOCK * bitmap_blocks g.inodes → new.inode_bits n ≡ is_marked_inode g new n

or_right : (a b : Bool) → (a || b || true) ≡ true
or_right true b = refl
or_right false true = refl
or_right false false = refl

or_none : (a : Bool) → (a || false) ≡ a
or_none true = refl
or_none false = refl

module _ (g : Geometry) (old new : Parts) (n : ℕ) (one : ChangesOne old new n) (less : n < g.inodes)
    (marked : IsMarked g old) (moves : TakesAndDrops g old new n) where
  module _ (b : ℕ) where
    abbrev O : ℕ
    O = times b (owned g old)

    abbrev O' : ℕ
    O' = times b (owned g new)

    abbrev x : ℕ
    x = times b (owned_by old.content (old.table n))

    abbrev x' : ℕ
    x' = times b (owned_by new.content (new.table n))

    sums : O' + x ≡ O + x'
    sums = changed_owners g old new n one (λ one. nat_eq one b) less

    its_part : x ≤ O
    unfolding owned
    its_part =
        let are = counts (λ one. nat_eq one b) (λ m. owned_by old.content (old.table m))
        (range_with_len 0 g.inodes) in
        let low = part (λ m. times b (owned_by old.content (old.table m))) n 0 g.inodes (omega arith)
        (omega (arith, less)) in
        omega (arith, are, low)

    no_two : O' ≤ 1
    no_two = elim (cases_lt 0 x') [
      | inl some ↦ (elim (cases_lt 0 x) [
        | inl had ↦ let s = sums in let o = marked.once b in let m = moves.once b in omega
            (arith, s, o, m, some, had)
        | inr hadnt ↦ let s = sums in let m = moves.once b in let f = moves.free b some
            (omega (arith, hadnt)) in omega (arith, s, m, f)
      ])
      | inr none ↦ let s = sums in let o = marked.once b in omega (arith, s, o, none)
    ]

    abbrev outside : Bool
    outside = nat_lt b (data_at g.blocks g.inodes) || nat_le g.blocks b

    mark_is : (parts : Parts) → is_marked_block g parts b ≡ (outside || nat_lt 0 (times b (owned g parts)))
    mark_is parts = ap (λ any. outside || any) (any_of (λ one. nat_eq one b) (owned g parts))

    bit_is : b < BITS_PER_BLOCK * bitmap_blocks g.blocks → new.block_bits b ≡ is_marked_block g new b
    bit_is low = elim (cases_lt 0 x') [
      | inl some ↦
          let s = sums in let p = its_part in
          moves.has b low some
          ∙ sym (mark_is new ∙ ap (λ any. outside || any) (lt-ltb 0 O' (omega (arith, s, p, some)))
          ∙ or_right (nat_lt b (data_at g.blocks g.inodes)) (nat_le g.blocks b))
      | inr none ↦ (elim (cases_lt 0 x) [
        | inl had ↦
            let s = sums in let o = marked.once b in let p = its_part in
            moves.dropped b low (omega (arith, none)) had
            ∙ sym (mark_is new
            ∙ ap (λ any. outside || any) (not_below 0 O' (omega (arith, s, o, p, none, had)))
            ∙ or_none outside)
        | inr hadnt ↦
            let s = sums in
            let same : O' ≡ O = omega (arith, s, none, hadnt) in
            moves.others b low (omega (arith, none)) (omega (arith, hadnt)) ∙ marked.blocks_marked b low
            ∙ mark_is old
            ∙ ap (λ k. outside || nat_lt 0 k) (sym same) ∙ sym (mark_is new)
      ])
    ]

  -- the bitmaps mark what is in use
  pub moved_marks : IsMarked g new
  moved_marks = record {
    once = no_two;
    blocks_marked = bit_is;
    inodes_marked = λ m low. elim (cases_eq m n) [
      | inl is ↦ subst (λ k. k < BITS_PER_BLOCK * bitmap_blocks g.inodes → new.inode_bits k
          ≡ is_marked_inode g new k) (sym is) moves.itself low
      | inr not ↦ moves.inodes m not ∙ marked.inodes_marked m low
          ∙ ap (λ read. nat_eq m 0 || nat_le g.inodes m || is_used read) (sym (one.table m not))
    ];
  }

-- a block whose bit is clear is no inode's
pub unmarked_is_free : (g : Geometry) (parts : Parts) (b : ℕ) → IsMarked g parts
    → b < BITS_PER_BLOCK * bitmap_blocks g.blocks → parts.block_bits b ≡ false → times b (owned g parts) ≡ 0
unmarked_is_free g parts b marked low is_unmarked = elim (cases_lt 0 (times b (owned g parts))) [
  | inl some ↦
      let set : parts.block_bits b ≡ true = marked.blocks_marked b low
      ∙ ap (λ any. nat_lt b (data_at g.blocks g.inodes) || nat_le g.blocks b || any)
      (any_of (λ one. nat_eq one b) (owned g parts) ∙ lt-ltb 0 (times b (owned g parts)) some)
      ∙ or_right (nat_lt b (data_at g.blocks g.inodes)) (nat_le g.blocks b) in
      let clash : true ≡ false = sym set ∙ is_unmarked in cc
  | inr none ↦ omega (arith, none)
]
