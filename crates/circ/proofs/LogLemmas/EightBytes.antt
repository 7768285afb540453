-- Lemmas on the numbers in a block.
use Rattle.std.proofs.Common.{◌≡◌, ℕ, ◌+◌, ◌-◌, ◌*◌, ◌%◌, ◌<◌, ◌≤◌, ◌^◌, ◌⊎◌, inl, inr, List, ◌++◌, length}
use Rattle.std.proofs.Common.{take, drop, sym, ap, ◌∙◌, arith, append_assoc, length-append, length-drop}
use Rattle.std.proofs.Common.{length-take-le}
use Rattle.std.specs.Int.{w64, to_le_bytes, from_le_bytes}
use Rattle.std.proofs.lemmas.Bool.{cases_lt}
use Rattle.std.proofs.lemmas.Nat.{from_le_bytes-to_le_bytes_8}
use Rattle.std.proofs.lemmas.List.{drop_at, drop-append-le, take-append-le, drop-drop, take-append-drop}
use Rattle.std.proofs.Math.Seq.{drop-append-add}
use Rattle.base.specs.declared.TheConstants.{LOG_SLOTS}
use Rattle.disk.specs.Device.{Content}
use Rattle.circ.specs.Log.EightBytes.{number_at, with_number}

pub length-with_number : (content : Content) (offset number : ℕ) → offset + 8 ≤ length content
    → length (with_number content offset number) ≡ length content
unfolding with_number
length-with_number content offset number h =
    let a = length-append (take offset content ++ to_le_bytes w64 number) (drop (offset + 8) content) in
    let b = length-append (take offset content) (to_le_bytes w64 number) in
    let t : length (take offset content) ≡ offset = length-take-le offset content (omega arith) in
    let d = length-drop (offset + 8) content in
    omega (arith, a, b, t, d)

-- the number that was put
pub number_at-same : (content : Content) (offset number : ℕ) → offset + 8 ≤ length content → number < 2 ^ 64
    → number_at (with_number content offset number) offset ≡ number
unfolding number_at with_number
number_at-same content offset number h fits =
    let t : length (take offset content) ≡ offset = length-take-le offset content (omega arith) in
    let rest : List ℕ = drop (offset + 8) content in
    let e : drop offset (with_number content offset number) ≡ to_le_bytes w64 number ++ rest =
    ap (drop offset) (append_assoc (take offset content) (to_le_bytes w64 number) rest)
    ∙ drop_at (take offset content) (to_le_bytes w64 number ++ rest) offset t in
    ap (λ bytes. from_le_bytes w64 (take 8 bytes)) e ∙ from_le_bytes-to_le_bytes_8 number fits

within_leading : (leading rest : List ℕ) (at : ℕ) → at + 8 ≤ length leading
    → take 8 (drop at (leading ++ rest)) ≡ take 8 (drop at leading)
within_leading leading rest at h =
    let n : 8 ≤ length (drop at leading) = omega (arith, length-drop at leading) in
    let m : at ≤ length leading = omega arith in
    ap (take 8) (drop-append-le at leading rest m) ∙ take-append-le 8 (drop at leading) rest n

-- a number before the one that was put
pub number_at-before : (content : Content) (offset number at : ℕ) → offset + 8 ≤ length content
    → at + 8 ≤ offset → number_at (with_number content offset number) at ≡ number_at content at
unfolding number_at with_number
number_at-before content offset number at h lt =
    let leading : List ℕ = take offset content in
    let t : length leading ≡ offset = length-take-le offset content (omega arith) in
    let n : at + 8 ≤ length leading = omega arith in
    let rest : List ℕ = to_le_bytes w64 number ++ drop (offset + 8) content in
    let new : take 8 (drop at (with_number content offset number)) ≡ take 8 (drop at leading) =
    ap (λ bytes. take 8 (drop at bytes))
    (append_assoc leading (to_le_bytes w64 number) (drop (offset + 8) content))
    ∙ within_leading leading rest at n in
    let old : take 8 (drop at content) ≡ take 8 (drop at leading) =
    ap (λ bytes. take 8 (drop at bytes)) (sym (take-append-drop offset content))
    ∙ within_leading leading (drop offset content) at n in
    ap (from_le_bytes w64) (new ∙ sym old)

-- a number behind the one that was put
pub number_at-behind : (content : Content) (offset number at : ℕ) → offset + 8 ≤ length content
    → offset + 8 ≤ at → number_at (with_number content offset number) at ≡ number_at content at
unfolding number_at with_number
number_at-behind content offset number at h le =
    let leading : List ℕ = take offset content ++ to_le_bytes w64 number in
    let t : length (take offset content) ≡ offset = length-take-le offset content (omega arith) in
    let n : length leading ≡ offset + 8 = length-append (take offset content) (to_le_bytes w64 number)
    ∙ ap (λ k. k + 8) t in
    let j : ℕ = at - (offset + 8) in
    let m : length leading + j ≡ at = omega arith in
    let k : (offset + 8) + j ≡ at = omega arith in
    let new : drop at (with_number content offset number) ≡ drop j (drop (offset + 8) content) =
    ap (λ i. drop i (leading ++ drop (offset + 8) content)) (sym m)
    ∙ drop-append-add leading (drop (offset + 8) content) j in
    let old : drop j (drop (offset + 8) content) ≡ drop at content = drop-drop j (offset + 8) content
    ∙ ap (λ i. drop i content) k in
    ap (λ bytes. from_le_bytes w64 (take 8 bytes)) (new ∙ old)

-- two positions less than the count of slots apart have two slots
pub other_slot : (start k i : ℕ) → k < i → i < LOG_SLOTS
    → ((start + k) % LOG_SLOTS < (start + i) % LOG_SLOTS)
    ⊎ ((start + i) % LOG_SLOTS < (start + k) % LOG_SLOTS)
other_slot start k i h lt =
    elim (cases_lt ((start + k) % LOG_SLOTS) ((start + i) % LOG_SLOTS)) [
      | inl before ↦ inl before
      | inr behind ↦ inr (omega arith)
    ]

-- an address that is put leaves those of the positions before
pub address_at-other : (content : Content) (start k i home : ℕ) → length content ≡ 8 + 8 * LOG_SLOTS → k < i
    → i < LOG_SLOTS
    → number_at (with_number content (8 + 8 * ((start + i) % LOG_SLOTS)) home)
    (8 + 8 * ((start + k) % LOG_SLOTS)) ≡ number_at content (8 + 8 * ((start + k) % LOG_SLOTS))
address_at-other content start k i home l h lt =
    let P : Type 0 =
    number_at (with_number content (8 + 8 * ((start + i) % LOG_SLOTS)) home)
    (8 + 8 * ((start + k) % LOG_SLOTS)) ≡ number_at content (8 + 8 * ((start + k) % LOG_SLOTS)) in
    elim (other_slot start k i h lt) as (λ _. P) [
      | inl before ↦ number_at-before content (8 + 8 * ((start + i) % LOG_SLOTS)) home
          (8 + 8 * ((start + k) % LOG_SLOTS)) (omega arith) (omega arith)
      | inr behind ↦ number_at-behind content (8 + 8 * ((start + i) % LOG_SLOTS)) home
          (8 + 8 * ((start + k) % LOG_SLOTS)) (omega arith) (omega arith)
    ]
