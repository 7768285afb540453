-- What WRITE makes of the bytes of a sound file.
use Rattle.std.proofs.Common.{◌≡◌, ◌⊎◌, inl, inr, ℕ, zero, suc, ◌+◌, ◌-◌, ◌/◌, ◌<◌, ◌≤◌, max, sym, ap, ◌∙◌}
use Rattle.std.proofs.Common.{refl}
use Rattle.std.proofs.Common.{Bool, true, false, ◌||◌, List, ◌++◌, length, get_or, take, drop, replicate}
use Rattle.std.proofs.Common.{length-append, arith, rules}
use Rattle.std.proofs.lemmas.Bool.{cases_lt}
use Rattle.std.proofs.lemmas.List.{get_or-append_right, get_or-drop, get_or-replicate, get_or-take}
use Rattle.std.proofs.lemmas.List.{get_or_append_left, get_or_past, length-drop, length-replicate}
use Rattle.std.proofs.lemmas.List.{length-take}
use Rattle.std.specs.Cmp.{nat_cmp_total}
use Rattle.std.specs.FinSet.{FinSet, contains, contains-insert, insert}
use Rattle.std.specs.List.{range_with_len}
use Rattle.std.specs.Ordering.{eq_by_cmp, nat_cmp}
use Rattle.base.specs.declared.TheConstants.{BLOCK_BYTES, LARGEST_FILE}
use Rattle.nfs_types.specs.Fits.{AreBytes}
use Rattle.nfs_spec.proofs.ModelLemmas.Sets.{eq_by_cmp-is, itself}
use Rattle.nfs_spec.specs.Model.Sound.{SoundBytes}
use Rattle.nfs_spec.specs.Procedures.Write.{mapped_with, overwritten, touched}

-- Which indexes are mapped.

either : (a b : Bool) → (a || b) ≡ true → (a ≡ true) ⊎ (b ≡ true)
either true b e = inl refl
either false b e = inr e

neither : (a b : Bool) → (a || b) ≡ false → (a ≡ false) × (b ≡ false)
neither true b e = cc
neither false b e = (refl, e)

-- an index that is mapped was so, or is among the touched
pub mapped_in : (n first q : ℕ) (mapped : FinSet nat_cmp)
    → contains (mapped_with (range_with_len first n) mapped) q ≡ true
    → (contains mapped q ≡ true) ⊎ (q < first + n)
mapped_in zero first q mapped is = inl is
mapped_in (suc n) first q mapped is =
    elim (mapped_in n (first + 1) q (insert mapped first) is) [
      | inl here ↦ elim (either _ _ (sym (contains-insert nat_cmp_total mapped first q) ∙ here)) [
        | inl same ↦ let e = eq_by_cmp-is q first same in inr (omega (arith, e))
        | inr before ↦ inl before
      ]
      | inr below ↦ inr (omega (arith, below))
    ]

-- one that isn't wasn't, and isn't among them
pub mapped_out : (n first q : ℕ) (mapped : FinSet nat_cmp)
    → contains (mapped_with (range_with_len first n) mapped) q ≡ false
    → (contains mapped q ≡ false) × (first ≤ q → q < first + n → ⊥)
mapped_out zero first q mapped is = (is, λ above below. absurd (omega (arith, above, below)))
mapped_out (suc n) first q mapped is =
    let rest = mapped_out n (first + 1) q (insert mapped first) is in
    let parts = neither _ _ (sym (contains-insert nat_cmp_total mapped first q) ∙ rest.0) in (
      parts.1,
      λ above below. elim (cases_lt first q) [
        | inl more ↦ rest.1 (omega (arith, more)) (omega (arith, below))
        | inr less ↦
            let same : q ≡ first = omega (arith, less, above) in
            let yes : eq_by_cmp nat_cmp q first ≡ true = ap (eq_by_cmp nat_cmp q) (sym same) ∙ itself q in
            let never : true ≡ false = sym yes ∙ parts.0 in cc
      ],
    )

-- The bytes.

-- the bytes up to what is written: those before it, and the zeros of a hole
before : ℕ → List ℕ → List ℕ
before offset bytes = take offset bytes ++ replicate (offset - length bytes) 0

pieces : (offset : ℕ) (text bytes : List ℕ)
    → overwritten offset text bytes ≡ (before offset bytes ++ text) ++ drop (offset + length text) bytes
unfolding before
pieces offset text bytes = search rules

length_before : (offset : ℕ) (bytes : List ℕ) → length (before offset bytes) ≡ offset
unfolding before
length_before offset bytes =
    let zeros : length (replicate {A = ℕ} (offset - length bytes) 0) ≡ offset - length bytes =
    length-replicate (offset - length bytes) 0 in
    omega (
      arith,
      zeros,
      length-take offset bytes,
      length-append (take offset bytes) (replicate (offset - length bytes) 0),
    )

length_first : (offset : ℕ) (text bytes : List ℕ) → length (before offset bytes ++ text) ≡ offset + length text
length_first offset text bytes =
    let short = length_before offset bytes in omega (arith, short, length-append (before offset bytes) text)

pub length_overwritten : (offset : ℕ) (text bytes : List ℕ)
    → length (overwritten offset text bytes) ≡ max (length bytes) (offset + length text)
length_overwritten offset text bytes =
    let is = ap length (pieces offset text bytes) in
    let first = length_first offset text bytes in
    let all = length-append (before offset bytes ++ text) (drop (offset + length text) bytes) in
    omega (arith, is, first, all, length-drop (offset + length text) bytes)

hole : (n at : ℕ) → get_or {A = ℕ} (replicate n 0) at 0 ≡ 0
hole n at =
    elim (cases_lt at n) [
      | inl inside ↦ get_or-replicate n at 0 0 inside
      | inr past ↦ let long : length (replicate {A = ℕ} n 0) ≡ n = length-replicate n 0 in
          get_or_past (replicate n 0) at 0 (omega (arith, long, past))
    ]

at_before : (offset at : ℕ) (bytes : List ℕ) → at < offset → get_or (before offset bytes) at 0
    ≡ get_or bytes at 0
unfolding before
at_before offset at bytes below =
    elim (cases_lt at (length bytes)) [
      | inl inside ↦
          get_or_append_left (take offset bytes) (replicate (offset - length bytes) 0) 0 at
          (omega (arith, length-take offset bytes, below, inside))
          ∙ get_or-take offset bytes at 0 below
      | inr past ↦
          get_or-append_right (take offset bytes) (replicate (offset - length bytes) 0) (length bytes) at 0
          (omega (arith, length-take offset bytes, below, past)) past
          ∙ hole (offset - length bytes) (at - length bytes) ∙ sym (get_or_past bytes at 0 past)
    ]

-- the bytes before what is written stay
pub preserved_before : (offset at : ℕ) (text bytes : List ℕ) → at < offset
    → get_or (overwritten offset text bytes) at 0 ≡ get_or bytes at 0
preserved_before offset at text bytes below =
    let short = length_before offset bytes in
    let first = length_first offset text bytes in
    ap (λ xs. get_or xs at 0) (pieces offset text bytes)
    ∙ get_or_append_left (before offset bytes ++ text) (drop (offset + length text) bytes) 0 at
    (omega (arith, first, below))
    ∙ get_or_append_left (before offset bytes) text 0 at (omega (arith, short, below))
    ∙ at_before offset at bytes below

-- what is written is there
pub written_at : (offset at : ℕ) (text bytes : List ℕ) → offset ≤ at → at < offset + length text
    → get_or (overwritten offset text bytes) at 0 ≡ get_or text (at - offset) 0
written_at offset at text bytes above below =
    let short = length_before offset bytes in
    let first = length_first offset text bytes in
    ap (λ xs. get_or xs at 0) (pieces offset text bytes)
    ∙ get_or_append_left (before offset bytes ++ text) (drop (offset + length text) bytes) 0 at
    (omega (arith, first, below))
    ∙ get_or-append_right (before offset bytes) text offset at 0 short above

-- the bytes behind it stay
pub preserved_behind : (offset at : ℕ) (text bytes : List ℕ) → offset + length text ≤ at
    → get_or (overwritten offset text bytes) at 0 ≡ get_or bytes at 0
preserved_behind offset at text bytes above =
    let there : offset + length text + (at - (offset + length text)) ≡ at = omega (arith, above) in
    ap (λ xs. get_or xs at 0) (pieces offset text bytes)
    ∙ get_or-append_right (before offset bytes ++ text) (drop (offset + length text) bytes)
    (offset + length text)
    at 0 (length_first offset text bytes) above
    ∙ get_or-drop (offset + length text) bytes (at - (offset + length text)) 0
    ∙ ap (λ n. get_or bytes n 0) there

small : (b c : ℕ) → c ≡ b → b < 256 → c < 256
small b c e h = omega (arith, e, h)

module _ (offset : ℕ) (text bytes : List ℕ) (mapped : FinSet nat_cmp) (some : 0 < length text)
    (fits : offset + length text ≤ LARGEST_FILE) (are_bytes : AreBytes text)
    (good : SoundBytes bytes mapped) where
  each_byte : AreBytes (overwritten offset text bytes)
  each_byte at =
      elim (cases_lt at offset) [
        | inl below ↦ small _ _ (preserved_before offset at text bytes below) (good.each at)
        | inr above ↦ elim (cases_lt at (offset + length text)) [
          | inl inside ↦ small _ _ (written_at offset at text bytes above inside) (are_bytes (at - offset))
          | inr behind ↦ small _ _ (preserved_behind offset at text bytes behind) (good.each at)
        ]
      ]

  abbrev first_index : ℕ
  first_index = offset / BLOCK_BYTES

  abbrev indexes_count : ℕ
  indexes_count = suc ((offset + length text - 1) / BLOCK_BYTES - offset / BLOCK_BYTES)

  touched_index : (at : ℕ) → offset ≤ at → at < offset + length text
      → (first_index ≤ at / BLOCK_BYTES) × (at / BLOCK_BYTES < first_index + indexes_count)
  touched_index at above below = (omega (arith, above), omega (arith, above, below))

  -- A sound file stays sound where bytes are written into it.
  pub overwritten_sound : SoundBytes (overwritten offset text bytes) (mapped_with (touched offset
      (length text)) mapped)
  overwritten_sound = record {
    each = each_byte;
    size = let size = length_overwritten offset text bytes in let was =
        good.size in omega (arith, size, was, fits);
    indexes = λ index is.
        elim (mapped_in indexes_count first_index index mapped is) [
          | inl was ↦ good.indexes index was
          | inr below ↦ omega (arith, below, fits, some)
        ];
    zeros = λ at free.
        let out = mapped_out indexes_count first_index (at / BLOCK_BYTES) mapped free in
        elim (cases_lt at offset) [
          | inl below ↦ preserved_before offset at text bytes below ∙ good.zeros at out.0
          | inr above ↦ elim (cases_lt at (offset + length text)) [
            | inl inside ↦ let in_it = touched_index at above inside in absurd (out.1 in_it.0 in_it.1)
            | inr behind ↦ preserved_behind offset at text bytes behind ∙ good.zeros at out.0
          ]
        ];
  }
