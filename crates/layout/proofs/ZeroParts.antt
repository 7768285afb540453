-- Bytes that are all zero, 32 at a time.
use Rattle.std.proofs.Common.{◌≡◌, ℕ, zero, suc, ◌+◌, ◌-◌, ◌<◌, ◌≤◌, sym, ap, ◌∙◌, refl, true, false, ◌&&◌, Bool, List}
use Rattle.std.proofs.Common.{bit_or, length, take, drop, nat_eq, arith}
use Rattle.std.specs.Int.Bits.{or_zero_l}
use Rattle.std.proofs.lemmas.Bool.Decides.{nat_tests}
use Rattle.std.proofs.lemmas.List.{drop-drop, length-drop, take_all}
use Rattle.std.proofs.lemmas.Nat.{le_or_l}
use Rattle.std.proofs.Math.Seq.{take-add}
use Rattle.nfs_types.specs.Fits.{AreBytes}
use Rattle.layout.specs.declared.slot.TheConstants.{NAME_AT, SLOT_BYTES}
use Rattle.layout.specs.Fields.{eight_at, is_zeros}
use Rattle.layout.proofs.Fits.{eight}
use Rattle.layout.proofs.Respelled.{all_two, all_four, same_number}
use Rattle.layout.proofs.ZeroWords.{both, split, word_is_zero, zero_word, zeros_append}

not_zero : (number : ℕ) → 0 < number → nat_eq number 0 ≡ false
not_zero number more = grind (arith, nat_tests, more)

or_test : (a b : ℕ) → nat_eq (bit_or a b) 0 ≡ (nat_eq a 0 && nat_eq b 0)
or_test zero b = ap (λ n. nat_eq n 0) (or_zero_l b)
or_test (suc a) b =
    let least = le_or_l (suc a) b in
    not_zero (bit_or (suc a) b) (omega (arith, least))
    ∙ sym (ap (λ t. t && nat_eq b 0) (not_zero (suc a) (omega arith)))

-- tests that pass together are one
pub one_test : (a b : Bool) → (a ≡ true → b ≡ true) → (b ≡ true → a ≡ true) → a ≡ b
one_test true b there back = sym (there refl)
one_test false true there back = back refl
one_test false false there back = refl

module _ (bytes : List ℕ) where
  -- so many bytes from an offset on are zero
  abbrev are : ℕ → ℕ → Bool
  are from count = is_zeros (take count (drop from bytes))

  -- those, and so many more
  more : (from count width : ℕ) → are from (count + width) ≡ (are from count && are (from + count) width)
  more from count width = ap is_zeros (take-add count width (drop from bytes))
      ∙ zeros_append (take count (drop from bytes)) (take width (drop count (drop from bytes)))
      ∙ ap (λ l. are from count && is_zeros (take width l)) (drop-drop count from bytes)

  module _ (of : AreBytes bytes) where
    word_test : (from : ℕ) → from + 8 ≤ length bytes → nat_eq (eight_at from bytes) 0 ≡ are from 8
    word_test from inside = one_test (nat_eq (eight_at from bytes) 0) (are from 8)
        (λ none. zero_word bytes of from inside (same_number (eight_at from bytes) 0 none))
        (λ zeros. ap (λ n. nat_eq n 0) (word_is_zero bytes of from inside (eight bytes of from) zeros))

    two : (from : ℕ) → from + 16 ≤ length bytes
        → nat_eq (bit_or (eight_at from bytes) (eight_at (from + 8) bytes)) 0 ≡ are from 16
    two from inside = or_test (eight_at from bytes) (eight_at (from + 8) bytes)
        ∙ (λ i. word_test from (omega (arith, inside)) i && word_test (from + 8) (omega (arith, inside)) i)
        ∙ sym (more from 8 8)

    -- four words at once
    pub four_words : (from : ℕ) → from + 32 ≤ length bytes
        → nat_eq (bit_or (bit_or (eight_at from bytes) (eight_at (from + 8) bytes))
        (bit_or (eight_at (from + 16) bytes) (eight_at (from + 16 + 8) bytes))) 0
        ≡ are from 32
    four_words from inside =
        or_test (bit_or (eight_at from bytes) (eight_at (from + 8) bytes))
        (bit_or (eight_at (from + 16) bytes) (eight_at (from + 16 + 8) bytes))
        ∙ (λ i. two from (omega (arith, inside)) i && two (from + 16) (omega (arith, inside)) i)
        ∙ sym (more from 16 16)

  fewer : (from few most : ℕ) → few ≤ most → are from most ≡ true → are from few ≡ true
  fewer from few most less all =
      let most_is : few + (most - few) ≡ most = omega (arith, less) in
      (all_two (are from few) (are (from + few) (most - few))
      (sym (more from few (most - few)) ∙ ap (are from) most_is ∙ all)).0

  -- all of those from an offset on: so many, and those behind
  rest_split : (from past : ℕ) → from ≤ past
      → is_zeros (drop from bytes) ≡ (are from (past - from) && is_zeros (drop past bytes))
  rest_split from past less =
      let past_is : from + (past - from) ≡ past = omega (arith, less) in
      split (past - from) (drop from bytes)
      ∙ ap (λ l. are from (past - from) && is_zeros l) (drop-drop (past - from) from bytes)
      ∙ ap (λ n. are from (past - from) && is_zeros (drop n bytes)) past_is

  -- of zeros from an offset on each part is zero
  part : (from at : ℕ) → from ≤ at → is_zeros (drop from bytes) ≡ true → are at 32 ≡ true
  part from at less all =
      let behind = (all_two (are from (at - from)) (is_zeros (drop at bytes)) (sym (rest_split from at less) ∙ all)).1 in
      (all_two (are at 32) (is_zeros (drop 32 (drop at bytes))) (sym (split 32 (drop at bytes)) ∙ behind)).0

  -- 32 zeros, and behind them or before their end zeros to the end
  joined : (from past : ℕ) → from ≤ past → past ≤ from + 32 → are from 32 ≡ true → is_zeros (drop past bytes) ≡ true
      → is_zeros (drop from bytes) ≡ true
  joined from past less lower_part here behind =
      rest_split from past less
      ∙ both (are from (past - from)) (is_zeros (drop past bytes))
      (fewer from (past - from) 32 (omega (arith, lower_part)) here) behind

  module _ (count : ℕ) (long : length bytes ≡ SLOT_BYTES) (few : count ≤ 24) where
    last : are 96 32 ≡ true → is_zeros (drop 96 bytes) ≡ true
    last here =
        let all = length-drop 96 bytes in
        ap is_zeros (sym (take_all 32 (drop 96 bytes) (omega (arith, all, long)))) ∙ here

    parts_all : (are (NAME_AT + count) 32 && are 32 32 && are 64 32 && are 96 32) ≡ true
        → is_zeros (drop (NAME_AT + count) bytes) ≡ true
    parts_all is =
        let each = all_four (are (NAME_AT + count) 32) (are 32 32) (are 64 32) (are 96 32) is in
        joined (NAME_AT + count) 32 (omega (arith, few)) (omega arith) each.0
        (joined 32 64 (omega arith) (omega arith) each.1
        (joined 64 96 (omega arith) (omega arith) each.2 (last each.3)))

    all_parts : is_zeros (drop (NAME_AT + count) bytes) ≡ true
        → (are (NAME_AT + count) 32 && are 32 32 && are 64 32 && are 96 32) ≡ true
    all_parts all =
        λ i. part (NAME_AT + count) (NAME_AT + count) (omega arith) all i
        && part (NAME_AT + count) 32 (omega (arith, few)) all i
        && part (NAME_AT + count) 64 (omega (arith, few)) all i
        && part (NAME_AT + count) 96 (omega (arith, few)) all i

    -- behind a short name
    pub behind : (are (NAME_AT + count) 32 && are 32 32 && are 64 32 && are 96 32)
        ≡ is_zeros (drop (NAME_AT + count) bytes)
    behind =
        one_test (are (NAME_AT + count) 32 && are 32 32 && are 64 32 && are 96 32) (is_zeros (drop (NAME_AT + count) bytes))
        parts_all all_parts
