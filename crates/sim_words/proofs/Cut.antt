-- The first part of a text, and the others.
use Rattle.std.proofs.Common.{◌≡◌, ℕ, zero, suc, ◌+◌, ◌-◌, ◌<◌, ◌≤◌, List, [], ◌∷◌, Bool, true, false, Some, None, length}
use Rattle.std.proofs.Common.{get_or, take, drop, refl, sym, ap, ◌∙◌, arith, add-one, inl, inr}
use Rattle.std.proofs.lemmas.Bool.{cases_lt, eq-eqb, le-ltb, lt-ltb, ne_eqb}
use Rattle.std.proofs.Math.ListN.{drop_of_length-le}
use Rattle.std.proofs.lemmas.List.{drop_more, length-drop}
use Rattle.std.specs.Prelude.{◌==◌, if◌then◌else◌, nat_lt}
use Rattle.sim_words.specs.Texts.{all_parts, behind, leading, longer, parts}

-- a text is its first part and those behind it
pub cut_parts : (byte : ℕ) (text : List ℕ) → parts byte text ≡ leading byte text ∷ all_parts byte (behind byte text)
unfolding leading behind parts
cut_parts byte [] = refl
cut_parts byte (b ∷ bytes) = elim (b == byte) as (λ (t : Bool).
    (if t then [] ∷ parts byte bytes else longer b (parts byte bytes))
    ≡ (if t then [] else b ∷ leading byte bytes) ∷ all_parts byte (if t then Some bytes else behind byte bytes))
    [ true ↦ refl | false ↦ ap (longer b) (cut_parts byte bytes) ]

-- the first part is as long as it is
pub leading_is : (byte : ℕ) (text : List ℕ) → take (length (leading byte text)) text ≡ leading byte text
unfolding leading
leading_is byte [] = refl
leading_is byte (b ∷ bytes) = elim (b == byte) as (λ (t : Bool).
    take (length (if t then [] else b ∷ leading byte bytes)) (b ∷ bytes) ≡ (if t then [] else b ∷ leading byte bytes))
    [ true ↦ refl | false ↦ ap (λ (rest : List ℕ). b ∷ rest) (leading_is byte bytes) ]

-- one byte more before both
one_on : (n m b : ℕ) (bytes : List ℕ) → (if nat_lt n m then Some (drop (n + 1) bytes) else None)
    ≡ (if nat_lt (suc n) (suc m) then Some (drop (suc n + 1) (b ∷ bytes)) else None)
one_on n m b bytes =
    let next : suc n + 1 ≡ suc (n + 1) = omega arith in
    let rest : drop (suc n + 1) (b ∷ bytes) ≡ drop (n + 1) bytes = ap (λ (k : ℕ). drop k (b ∷ bytes)) next in
    elim (cases_lt n m) [
      | inl less ↦
          ap (λ (t : Bool). if t then Some (drop (n + 1) bytes) else None) (lt-ltb n m less)
          ∙ ap (λ (l : List ℕ). Some l) (sym rest)
          ∙ sym (ap (λ (t : Bool). if t then Some (drop (suc n + 1) (b ∷ bytes)) else None)
          (lt-ltb (suc n) (suc m) (omega (arith, less))))
      | inr large ↦
          ap (λ (t : Bool). if t then Some (drop (n + 1) bytes) else None) (le-ltb n m large)
          ∙ sym (ap (λ (t : Bool). if t then Some (drop (suc n + 1) (b ∷ bytes)) else None)
          (le-ltb (suc n) (suc m) (omega (arith, large))))
    ]

-- what is behind it, where it isn't all
pub behind_is : (byte : ℕ) (text : List ℕ) → behind byte text
    ≡ (if nat_lt (length (leading byte text)) (length text) then Some (drop (length (leading byte text) + 1) text) else None)
unfolding leading behind
behind_is byte [] = refl
behind_is byte (b ∷ bytes) = elim (b == byte) as (λ (t : Bool).
    (if t then Some bytes else behind byte bytes)
    ≡ (if nat_lt (length (if t then [] else b ∷ leading byte bytes)) (suc (length bytes))
    then Some (drop (length (if t then [] else b ∷ leading byte bytes) + 1) (b ∷ bytes)) else None)) [
      | true ↦ sym (ap (λ (t : Bool). if t then Some bytes else None) (lt-ltb 0 (suc (length bytes)) (omega arith)))
      | false ↦ behind_is byte bytes ∙ one_on (length (leading byte bytes)) (length bytes) b bytes
    ]

take_whole : (n : ℕ) (text : List ℕ) → length text ≤ n → take n text ≡ text
take_whole zero [] few = refl
take_whole (suc n) [] few = refl
take_whole zero (b ∷ bytes) few = absurd (omega (arith, few))
take_whole (suc n) (b ∷ bytes) few = ap (λ (rest : List ℕ). b ∷ rest) (take_whole n bytes (omega (arith, few)))

-- where none stands in it the first part is all of it
pub all_leading : (byte n : ℕ) (text : List ℕ) → n ≡ length (leading byte text) → length text ≤ n
    → text ≡ leading byte text
all_leading byte n text is few =
    sym (take_whole (length (leading byte text)) text (omega (arith, is, few))) ∙ leading_is byte text

-- else what is behind it begins behind that byte
pub behind_cut : (byte n : ℕ) (text : List ℕ) → n ≡ length (leading byte text) → n < length text
    → Some (take (length text - (n + 1)) (drop (n + 1) text)) ≡ behind byte text
behind_cut byte n text is less =
    let long = length-drop (n + 1) text in
    let before : length (leading byte text) < length text = omega (arith, is, less) in
    ap (λ (l : List ℕ). Some l) (take_whole (length text - (n + 1)) (drop (n + 1) text) (omega (arith, long)))
    ∙ ap (λ (k : ℕ). Some (drop (k + 1) text)) is
    ∙ sym (ap (λ (t : Bool). if t then Some (drop (length (leading byte text) + 1) text) else None)
    (lt-ltb (length (leading byte text)) (length text) before))
    ∙ sym (behind_is byte text)

-- once all bytes were looked at the first part is as long as was counted
pub all_counted : (byte at : ℕ) (text : List ℕ) → length text ≤ at → at ≤ length text
    → length (leading byte text) ≡ at + length (leading byte (drop at text)) → length text ≡ length (leading byte text)
unfolding leading
all_counted byte at text over within is =
    let none : length (leading byte (drop at text)) ≡ 0 =
    ap (λ (rest : List ℕ). length (leading byte rest)) (drop_of_length-le text over) in
    omega (arith, over, within, is, none)

-- one of the bytes stands here
pub met : (byte at : ℕ) (text : List ℕ) → at < length text → get_or text at 0 ≡ byte
    → length (leading byte (drop at text)) ≡ 0
unfolding leading
met byte at text within is = ap (λ (rest : List ℕ). length (leading byte rest)) (drop_more text at 0 within)
    ∙ ap (λ (t : Bool). length (if t then [] else get_or text at 0 ∷ leading byte (drop (at + 1) text)))
    (eq-eqb (get_or text at 0) byte is)

-- another byte stands here
pub passed : (byte at : ℕ) (text : List ℕ) → at < length text → (get_or text at 0 ≡ byte → ⊥)
    → length (leading byte (drop at text)) ≡ length (leading byte (drop (at + 1) text)) + 1
unfolding leading
passed byte at text within differs =
    ap (λ (rest : List ℕ). length (leading byte rest)) (drop_more text at 0 within)
    ∙ ap (λ (t : Bool). length (if t then [] else get_or text at 0 ∷ leading byte (drop (at + 1) text)))
    (ne_eqb (get_or text at 0) byte differs)
    ∙ sym (add-one (length (leading byte (drop (at + 1) text))))

longer_few : (b n : ℕ) (texts : List (List ℕ)) → length texts ≤ n + 1 → length (longer b texts) ≤ n + 1
longer_few b n [] few = omega arith
longer_few b n (text ∷ texts) few = few

-- there is at most one part more than there are bytes
pub parts_few : (byte : ℕ) (text : List ℕ) → length (parts byte text) ≤ length text + 1
unfolding parts
parts_few byte [] = omega arith
parts_few byte (b ∷ bytes) = elim (b == byte) as (λ (t : Bool).
    length (if t then [] ∷ parts byte bytes else longer b (parts byte bytes)) ≤ suc (length bytes) + 1) [
      | true ↦ omega (arith, parts_few byte bytes)
      | false ↦ omega (arith, longer_few b (length bytes) (parts byte bytes) (parts_few byte bytes))
    ]
