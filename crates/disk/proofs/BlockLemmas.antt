-- Contents that are blocks.
use Rattle.std.proofs.Common.{ℕ, zero, suc, ◌<◌, ◌-◌, min, List, [], ◌∷◌, map, length, get_or, replicate, All}
use Rattle.std.proofs.Common.{arith, sym, subst}
use Rattle.std.proofs.lemmas.List.{length-replicate}
use Rattle.std.proofs.lemmas.List.Elements.{All-nil, All-cons, All-head, All-tail, All-get_or}
use Rattle.base.specs.declared.TheConstants.{BLOCK_BYTES}
use Rattle.disk.specs.Device.{Content}
use Rattle.disk.specs.Blocks.{IsBlock, AreContents}
use Rattle.disk.specs.Choice.{pick, chosen}
use Rattle.disk.specs.Memory.{Blocks}
use Rattle.disk.proofs.CrashLemmas.{chosen_cons}

zeros_below : (count index : ℕ) → get_or (replicate count 0) index 0 < 256
zeros_below zero index = omega arith
zeros_below (suc count) zero = omega arith
zeros_below (suc count) (suc index) = zeros_below count index

pub zeros_block : IsBlock (replicate BLOCK_BYTES 0)
zeros_block = (length-replicate {A = ℕ} BLOCK_BYTES 0, zeros_below BLOCK_BYTES)

single_content : (content : Content) → IsBlock content → AreContents (content ∷ [])
single_content content is = (omega arith, All-cons IsBlock content [] is (All-nil IsBlock))

picked : (index : ℕ) (contents : List Content) → AreContents contents → IsBlock (pick index contents)
picked index contents are =
    let some = are.0 in
    All-get_or IsBlock contents (min index (length contents - 1)) [] (omega (arith, some)) are.1

-- what is chosen of blocks are blocks
pub chosen_whole : (digits : List ℕ) (now : Blocks) → All AreContents now
    → All AreContents (map (λ c. c ∷ []) (chosen digits now))
chosen_whole digits [] are = All-nil AreContents
chosen_whole digits (contents ∷ rest) are =
    let (index, left, e) = chosen_cons digits contents rest in
    subst (λ (image : List Content). All AreContents (map (λ c. c ∷ []) image)) (sym e)
    (All-cons AreContents (pick index contents ∷ []) (map (λ c. c ∷ []) (chosen left rest))
    (single_content (pick index contents) (picked index contents (All-head AreContents contents rest are)))
    (chosen_whole left rest (All-tail AreContents contents rest are)))
