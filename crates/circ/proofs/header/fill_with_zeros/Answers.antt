use Rattle.std.proofs.Common.{◌≡◌, ℕ, ◌+◌, ◌≤◌, ◌-◌, List, ◌++◌, length, take, drop, replicate, ap, ◌∙◌}
use Rattle.std.proofs.Common.{arith, append-nil, length-append, length-drop}
use Rattle.std.proofs.lemmas.List.{drop_all, length-replicate}
use Rattle.base.specs.declared.TheConstants.{BLOCK_BYTES}
use Rattle.circ.proofs.header.fill_with_zeros.Goals as goal

-- bytes that are put over a whole block are the block
put_over : (old bytes new : List ℕ) (n : ℕ) → length bytes ≡ n → new ≡ take 0 old ++ bytes ++ drop (0 + n) old
    → length new ≡ n → new ≡ bytes
put_over old bytes new n m e h =
    let l : length new ≡ length bytes + length (drop (0 + n) old) = ap length e
    ∙ length-append bytes (drop (0 + n) old) in
    let d : length (drop (0 + n) old) ≡ length old - (0 + n) = length-drop (0 + n) old in
    let shorter : length old ≤ 0 + n = omega arith in
    e ∙ rw (drop_all (0 + n) old shorter) (append-nil bytes)

pub returns : goal.returns
returns c = put_over c.args.block.now (replicate BLOCK_BYTES 0) _ BLOCK_BYTES
    (length-replicate {A = ℕ} BLOCK_BYTES 0) c.put.ensures.bytes c.put.ensures.len
