-- A bit of a block into which a piece was put.
use Rattle.std.proofs.Common.{◌≡◌, ℕ, ◌+◌, ◌-◌, ◌*◌, ◌/◌, ◌%◌, ◌^◌, ◌<◌, ◌≤◌, inl, inr, sym, ap, ◌∙◌}
use Rattle.std.proofs.Common.{arith, Bool, cond, nat_eq, List, ◌++◌, take, drop, length, length-append}
use Rattle.std.proofs.Common.{get_or}
use Rattle.std.proofs.lemmas.Bool.{cases_eq, cases_lt}
use Rattle.std.proofs.lemmas.List.{get_or-append-add, get_or_append_left, get_or-drop}
use Rattle.std.proofs.lemmas.List.{get_or-take, length-take-le}
use Rattle.objects.specs.Spliced.{spliced}
use Rattle.layout.specs.declared.grid.TheConstants.{PIECE_BITS, PIECE_BYTES}
use Rattle.layout_records.specs.Bits.{bit_in}
use Rattle.layout_records.proofs.OneBit.{differs, equal}

module _ (content piece : List ℕ) (offset : ℕ) (has_space : offset + length piece ≤ length content) where
  before : length (take offset content) ≡ offset
  before = length-take-le offset content (omega (arith, has_space))

  head : length (take offset content ++ piece) ≡ offset + length piece
  head = let a = length-append (take offset content) piece in let b = before in omega (arith, a, b)

  pub ahead : (j : ℕ) → j < offset → get_or (spliced content offset piece) j 0 ≡ get_or content j 0
  ahead j less =
      let b = before in let h = head in
      get_or_append_left (take offset content ++ piece) (drop (offset + length piece) content) 0 j
      (omega (arith, h, less))
      ∙ get_or_append_left (take offset content) piece 0 j (omega (arith, b, less))
      ∙ get_or-take offset content j 0 less

  pub inside : (j : ℕ) → j < length piece → get_or (spliced content offset piece) (offset + j) 0
      ≡ get_or piece j 0
  inside j less =
      let h = head in
      get_or_append_left (take offset content ++ piece) (drop (offset + length piece) content) 0 (offset + j)
      (omega (arith, h, less))
      ∙ ap (λ n. get_or (take offset content ++ piece) (n + j) 0) (sym before)
      ∙ get_or-append-add (take offset content) piece j 0

  pub past : (j : ℕ) → get_or (spliced content offset piece) (offset + length piece + j) 0
      ≡ get_or content (offset + length piece + j) 0
  past j =
      ap (λ n. get_or (spliced content offset piece) (n + j) 0) (sym head)
      ∙ get_or-append-add (take offset content ++ piece) (drop (offset + length piece) content) j 0
      ∙ get_or-drop (offset + length piece) content j 0

module _ (content piece : List ℕ) (at bit : ℕ) (is : Bool) (has_space : PIECE_BYTES * at + PIECE_BYTES ≤ length content)
    (long : length piece ≡ PIECE_BYTES) (low : bit < PIECE_BITS)
    (put : (other : ℕ) → bit_in piece other
    ≡ cond (nat_eq other bit) is (bit_in (take PIECE_BYTES (drop (PIECE_BYTES * at) content)) other)) where
  fits : PIECE_BYTES * at + length piece ≤ length content
  fits = omega (arith, has_space, long)

  same_byte : (other : ℕ) (a b : ℕ) → a ≡ b → nat_eq (a / 2 ^ (other % 8) % 2) 1
      ≡ nat_eq (b / 2 ^ (other % 8) % 2) 1
  same_byte other a b same = ap (λ v. nat_eq (v / 2 ^ (other % 8) % 2) 1) same

  is_preserved : (other : ℕ) → (other ≡ PIECE_BITS * at + bit → ⊥)
      → get_or (spliced content (PIECE_BYTES * at) piece) (other / 8) 0 ≡ get_or content (other / 8) 0
      → bit_in (spliced content (PIECE_BYTES * at) piece) other
      ≡ cond (nat_eq other (PIECE_BITS * at + bit)) is (bit_in content other)
  is_preserved other not same =
      same_byte other _ _ same
      ∙ sym (ap (λ b. cond b is (bit_in content other)) (differs other (PIECE_BITS * at + bit) not))

  within : (j : ℕ) → j < PIECE_BITS → bit_in (spliced content (PIECE_BYTES * at) piece) (PIECE_BITS * at + j)
      ≡ cond (nat_eq (PIECE_BITS * at + j) (PIECE_BITS * at + bit)) is (bit_in content (PIECE_BITS * at + j))
  within j less =
      let byte : (PIECE_BITS * at + j) / 8 ≡ PIECE_BYTES * at + j / 8 = omega arith in
      let rest : (PIECE_BITS * at + j) % 8 ≡ j % 8 = omega arith in
      let low_byte : j / 8 < length piece = omega (arith, less, long) in
      (λ i. nat_eq (get_or (spliced content (PIECE_BYTES * at) piece) (byte i) 0 / 2 ^ (rest i) % 2) 1)
      ∙ ap (λ v. nat_eq (v / 2 ^ (j % 8) % 2) 1) (inside content piece (PIECE_BYTES * at) fits (j / 8) low_byte)
      ∙ put j
      ∙ (λ i. cond (same_test i) is (nat_eq (old_byte i / 2 ^ (sym rest i) % 2) 1))
    where
      same_test : nat_eq j bit ≡ nat_eq (PIECE_BITS * at + j) (PIECE_BITS * at + bit)
      same_test = elim (cases_eq j bit) [
        | inl is ↦ equal j bit is ∙ sym (equal (PIECE_BITS * at + j) (PIECE_BITS * at + bit) (ap (λ n. PIECE_BITS * at + n) is))
        | inr not ↦ differs j bit not
            ∙ sym (differs (PIECE_BITS * at + j) (PIECE_BITS * at + bit) (λ is. not (omega (arith, is))))
      ]

      old_byte : get_or (take PIECE_BYTES (drop (PIECE_BYTES * at) content)) (j / 8) 0 ≡ get_or content ((PIECE_BITS * at + j) / 8) 0
      old_byte =
          let byte : (PIECE_BITS * at + j) / 8 ≡ PIECE_BYTES * at + j / 8 = omega arith in
          get_or-take PIECE_BYTES (drop (PIECE_BYTES * at) content) (j / 8) 0 (omega (arith, less))
          ∙ get_or-drop (PIECE_BYTES * at) content (j / 8) 0
          ∙ ap (λ n. get_or content n 0) (sym byte)

  pub in_block : (other : ℕ) → bit_in (spliced content (PIECE_BYTES * at) piece) other
      ≡ cond (nat_eq other (PIECE_BITS * at + bit)) is (bit_in content other)
  in_block other = elim (cases_lt other (PIECE_BITS * at)) [
    | inl ahead_of ↦ is_preserved other (λ same. omega (arith, same, ahead_of))
        (ahead content piece (PIECE_BYTES * at) fits (other / 8) (omega (arith, ahead_of)))
    | inr from ↦ (elim (cases_lt other (PIECE_BITS * at + PIECE_BITS)) [
      | inl less ↦
          let split : PIECE_BITS * at + (other - PIECE_BITS * at) ≡ other = omega (arith, from) in
          ap (λ o. bit_in (spliced content (PIECE_BYTES * at) piece) o) (sym split)
          ∙ within (other - PIECE_BITS * at) (omega (arith, from, less))
          ∙ ap (λ o. cond (nat_eq o (PIECE_BITS * at + bit)) is (bit_in content o)) split
      | inr behind ↦
          let split : PIECE_BYTES * at + length piece + (other / 8 - (PIECE_BYTES * at + PIECE_BYTES)) ≡ other / 8 =
          omega (arith, behind, long) in
          is_preserved other (λ same. omega (arith, same, behind, low))
          (ap (λ n. get_or (spliced content (PIECE_BYTES * at) piece) n 0) (sym split)
          ∙ past content piece (PIECE_BYTES * at) fits (other / 8 - (PIECE_BYTES * at + PIECE_BYTES))
          ∙ ap (λ n. get_or content n 0) split)
    ])
  ]
