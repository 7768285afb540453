-- What the digits choose is what a crash may leave.
use Rattle.std.proofs.Common.{◌≡◌, ℕ, zero, suc, ◌-◌, ◌<◌, true, false, min, List, [], ◌∷◌, length, map, drop}
use Rattle.std.proofs.Common.{get_or, refl, sym, subst, arith, if◌then◌else◌, nat_lt}
use Rattle.std.proofs.lemmas.List.{get_or_default}
use Rattle.std.specs.Prelude.{Contains, slice_index}
use Rattle.disk.specs.Device.{Content, current, newest}
use Rattle.disk.specs.Choice.{pick, chosen}
use Rattle.disk.specs.Crash.{IsCrashImage, IsAtRest}
use Rattle.disk.specs.Memory.{Blocks, Past, device_of}
use Rattle.disk.proofs.MemoryLemmas.{current_now}

picked : (index : ℕ) (contents : List Content) → 0 < length contents → Contains contents (pick index contents)
picked index contents some =
    let i : ℕ = min index (length contents - 1) in
    let h : i < length contents = omega arith in
    (i, h, get_or_default contents i (pick index contents) [] h)

-- the next block takes some content, and the others the digits that are left
pub chosen_cons : (digits : List ℕ) (contents : List Content) (rest : Blocks)
    → (index : ℕ) × (left : List ℕ)
    × (chosen digits (contents ∷ rest) ≡ pick index contents ∷ chosen left rest)
chosen_cons digits contents rest =
    elim (nat_lt 1 (length contents)) as (λ b. (index : ℕ) × (left : List ℕ)
    × ((if b then pick (slice_index digits 0) contents ∷ chosen (drop 1 digits) rest
    else pick 0 contents ∷ chosen digits rest) ≡ pick index contents ∷ chosen left rest))
    [ true ↦ (slice_index digits 0, drop 1 digits, refl) | false ↦ (0, digits, refl) ]

abbrev single_content : List Content → Blocks
single_content image = map (λ c. c ∷ []) image

chosen_at : (digits : List ℕ) (now : Blocks) (block : ℕ) → block < length now
    → 0 < length (get_or now block [])
    → Contains (get_or now block []) (newest (get_or (single_content (chosen digits now)) block []))
chosen_at digits [] block h some = absurd (omega (arith, h))
chosen_at digits (contents ∷ rest) zero h some =
    let (index, left, e) = chosen_cons digits contents rest in
    subst (λ (image : List Content). Contains contents (newest (get_or (single_content image) 0 []))) (sym e)
    (picked index contents some)
chosen_at digits (contents ∷ rest) (suc block) h some =
    let (index, left, e) = chosen_cons digits contents rest in
    subst (λ (image : List Content). Contains (get_or rest block [])
    (newest (get_or (single_content image) (suc block) []))) (sym e)
    (chosen_at left rest block (omega (arith, h)) some)

pub chosen_image : (digits : List ℕ) (now : Blocks) (past : Past)
    → ((block : ℕ) → block < length now → 0 < length (get_or now block []))
    → IsCrashImage (device_of now past) (length past)
    (λ block. newest (current (device_of (single_content (chosen digits now)) []) block))
chosen_image digits now past some block h =
    subst (λ (contents : List Content). Contains contents
    (newest (get_or (single_content (chosen digits now)) block []))) (sym (current_now now past block))
    (chosen_at digits now block h (some block h))

single_content_each : (image : List Content) (block : ℕ) → block < length (single_content image)
    → length (get_or (single_content image) block []) ≡ 1
single_content_each [] block h = absurd (omega (arith, h))
single_content_each (c ∷ image) zero h = refl
single_content_each (c ∷ image) (suc block) h = single_content_each image block (omega (arith, h))

pub single_content_at_rest : (image : List Content) → IsAtRest (device_of (single_content image) [])
single_content_at_rest image = record { one = single_content_each image; certain = λ block. refl }
