-- What lies where in a block into which bytes were put.
use Rattle.std.proofs.Common.{◌≡◌, ◌⊎◌, inl, inr, ℕ, ◌+◌, ◌-◌, ◌≤◌, sym, ap, ◌∙◌, List, ◌++◌, length, take, drop}
use Rattle.std.proofs.Common.{length-append, length-drop, append_assoc, arith}
use Rattle.std.proofs.Math.Seq.{drop-append-add, take-append_seam}
use Rattle.std.proofs.lemmas.List.{drop-append-le, take-append-le, drop-take, take-take, drop-drop}
use Rattle.std.proofs.lemmas.List.{length-take-le, take_all}
use Rattle.base.specs.declared.TheConstants.{BLOCK_BYTES}
use Rattle.objects.specs.Spliced.{extracted, spliced}

module _ (content bytes : List ℕ) (offset : ℕ) (has_space : offset + length bytes ≤ length content) where
  abbrev behind_it : List ℕ
  behind_it = drop (offset + length bytes) content

  -- the parts, joined from the right (`++` joins from the left)
  abbrev joined : List ℕ
  joined = take offset content ++ (bytes ++ behind_it)

  is_joined : spliced content offset bytes ≡ joined
  is_joined = append_assoc (take offset content) bytes behind_it

  before : length (take offset content) ≡ offset
  before = length-take-le offset content (omega (arith, has_space))

  pub spliced-length : length (spliced content offset bytes) ≡ length content
  spliced-length =
      let a = length-append (take offset content) (bytes ++ behind_it) in
      let b = length-append bytes behind_it in
      let c = length-drop (offset + length bytes) content in
      let d = before in
      ap (λ (l : List ℕ). length l) is_joined ∙ omega (arith, a, b, c, d, has_space)

  -- past the seam
  past : (n : ℕ) → drop (offset + n) (spliced content offset bytes) ≡ drop n (bytes ++ behind_it)
  past n = ap (drop (offset + n)) is_joined ∙ ap (λ k. drop (k + n) joined) (sym before)
      ∙ drop-append-add (take offset content) (bytes ++ behind_it) n

  -- the bytes themselves
  pub there : take (length bytes) (drop offset (spliced content offset bytes)) ≡ bytes
  there =
      let at : offset ≡ offset + 0 = omega arith in
      ap (λ k. take (length bytes) (drop k (spliced content offset bytes))) at
      ∙ ap (take (length bytes)) (past 0) ∙ take-append_seam bytes behind_it

  -- what ends before them
  pub ahead : (from len : ℕ) → from + len ≤ offset
      → take len (drop from (spliced content offset bytes)) ≡ take len (drop from content)
  ahead from len less =
      let rest : from + (offset - from) ≡ offset = omega (arith, less) in
      let long = length-drop from (take offset content) in
      let b = before in
      ap (λ l. take len (drop from l)) is_joined
      ∙ ap (take len)
      (drop-append-le from (take offset content) (bytes ++ behind_it) (omega (arith, b, less)))
      ∙ take-append-le len (drop from (take offset content)) (bytes
      ++ behind_it) (omega (arith, long, b, less))
      ∙ ap (λ k. take len (drop from (take k content))) (sym rest)
      ∙ ap (take len) (drop-take from (offset - from) content)
      ∙ take-take len (offset - from) (drop from content) (omega (arith, less))

  -- what begins behind them
  pub behind : (from len : ℕ) → offset + length bytes ≤ from
      → take len (drop from (spliced content offset bytes)) ≡ take len (drop from content)
  behind from len more =
      let one : from ≡ offset + (length bytes + (from - (offset + length bytes))) = omega (arith, more) in
      let two : offset + length bytes + (from - (offset + length bytes)) ≡ from = omega (arith, more) in
      ap (take len)
      (ap (λ k. drop k (spliced content offset bytes)) one
      ∙ past (length bytes + (from - (offset + length bytes)))
      ∙ drop-append-add bytes behind_it (from - (offset + length bytes))
      ∙ drop-drop (from - (offset + length bytes)) (offset + length bytes) content
      ∙ ap (λ k. drop k content) two)

  -- what lies on either side of them
  pub elsewhere : (n : ℕ) → length bytes ≡ n → (from len : ℕ) → (from + len ≤ offset) ⊎ (offset + n ≤ from)
      → take len (drop from (spliced content offset bytes)) ≡ take len (drop from content)
  elsewhere n same from len (inl less) = ahead from len less
  elsewhere n same from len (inr more) = behind from len (omega (arith, same, more))

-- all of a block's bytes
pub whole_part : (content : List ℕ) (offset len : ℕ) → length content ≡ BLOCK_BYTES → offset + len ≤ BLOCK_BYTES
    → BLOCK_BYTES ≤ len → extracted content offset len ≡ content
whole_part content offset len long within whole =
    let start : offset ≡ 0 = omega (arith, within, whole) in
    ap (λ (from : ℕ). take len (drop from content)) start ∙ take_all len content (omega (arith, long, whole))
