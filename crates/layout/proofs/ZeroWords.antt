-- Bytes that are all zero, eight at a time.
use Rattle.std.proofs.Common.{◌≡◌, ℕ, ◌+◌, ◌<◌, ◌≤◌, ◌^◌, sym, ap, ◌∙◌, refl, true, false, ◌&&◌, Bool, List, ◌++◌}
use Rattle.std.proofs.Common.{length, take, drop, replicate}
use Rattle.std.specs.Int.{from_le_bytes, w64}
use Rattle.std.proofs.lemmas.List.{take-append-drop}
use Rattle.std.proofs.Math.Seq.{take-add}
use Rattle.std.proofs.lemmas.List.Folds.{list_all-append}
use Rattle.std.proofs.lemmas.Nat.{from_le_bytes-to_le_bytes_8}
use Rattle.nfs_types.specs.Fits.{AreBytes}
use Rattle.layout.specs.Fields.{eight_at, eight_bytes, is_zeros}
use Rattle.layout.proofs.Respelled.{all_two, all_zeros, first_eight}
use Rattle.layout.proofs.Fits.{part-length}

pub zeros_append : (xs ys : List ℕ) → is_zeros (xs ++ ys) ≡ (is_zeros xs && is_zeros ys)
zeros_append xs ys = list_all-append _ xs ys

pub both : (a b : Bool) → a ≡ true → b ≡ true → (a && b) ≡ true
both true b one two = two
both false b one two = cc

-- the first bytes and those behind them
pub split : (count : ℕ) (bytes : List ℕ) → is_zeros bytes ≡ (is_zeros (take count bytes) && is_zeros (drop count bytes))
split count bytes = ap is_zeros (sym (take-append-drop count bytes)) ∙ zeros_append (take count bytes) (drop count bytes)

module _ (bytes : List ℕ) (are : AreBytes bytes) (from : ℕ) (inside : from + 8 ≤ length bytes) where
  abbrev word : List ℕ
  word = take 8 (drop from bytes)

  pub zero_word : eight_at from bytes ≡ 0 → is_zeros word ≡ true
  unfolding eight_bytes
  zero_word none = ap is_zeros (sym (first_eight bytes are from inside) ∙ ap eight_bytes none)

  -- one word more of zeros
  pub one_more : is_zeros (take from bytes) ≡ true → eight_at from bytes ≡ 0
      → is_zeros (take (from + 8) bytes) ≡ true
  one_more before none =
      ap is_zeros (take-add from 8 bytes) ∙ zeros_append (take from bytes) word
      ∙ both (is_zeros (take from bytes)) (is_zeros word) before (zero_word none)

  pub word_is_zero : eight_at from bytes < 2 ^ 64 → is_zeros word ≡ true → eight_at from bytes ≡ 0
  unfolding eight_bytes
  word_is_zero small here =
      let zeros : word ≡ replicate 8 0 = all_zeros word here ∙ ap (λ n. replicate n 0) (part-length 8 from bytes inside) in
      sym (from_le_bytes-to_le_bytes_8 (eight_at from bytes) small)
      ∙ ap (from_le_bytes w64) (first_eight bytes are from inside ∙ zeros)

  word_zero : eight_at from bytes < 2 ^ 64 → is_zeros bytes ≡ true → eight_at from bytes ≡ 0
  word_zero small all =
      let behind = (all_two (is_zeros (take from bytes)) (is_zeros (drop from bytes)) (sym (split from bytes) ∙ all)).1 in
      word_is_zero small
      (all_two (is_zeros word) (is_zeros (drop 8 (drop from bytes))) (sym (split 8 (drop from bytes)) ∙ behind)).0

  -- a word that isn't zero
  pub some_left : eight_at from bytes < 2 ^ 64 → (eight_at from bytes ≡ 0 → ⊥) → false ≡ is_zeros bytes
  some_left small some = go (is_zeros bytes) refl
    where
      go : (b : Bool) → is_zeros bytes ≡ b → false ≡ b
      go true all = absurd (some (word_zero small all))
      go false none = refl
