-- Parts of parts.
use Rattle.std.proofs.Common.{ℕ, ◌+◌, ◌-◌, ◌≡◌, ◌≤◌, ◌∙◌, List, take, drop, length, ap, sym, arith}
use Rattle.std.proofs.lemmas.List.{drop-drop, take-take, length-take}
use Rattle.bytes.proofs.Ranges.{drop-take_less}

-- so many bytes of a part of a block, from one on, are those of the block
pub part_of : (block : List ℕ) (offset all from len : ℕ) → from + len ≤ length (take all (drop offset block))
    → take len (drop (offset + from) block) ≡ take len (drop from (take all (drop offset block)))
part_of block offset all from len within =
    let is = length-take all (drop offset block) in
    ap (take len) (sym (drop-drop from offset block))
    ∙ sym (take-take len (all - from) (drop from (drop offset block)) (omega (arith, within, is)))
    ∙ ap (take len) (sym (drop-take_less (drop offset block) from all (omega (arith, within, is))))
