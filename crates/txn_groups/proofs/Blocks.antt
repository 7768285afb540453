-- The blocks of objects only grow in number.
use Rattle.std.proofs.Common.{◌≡◌, ◌≤◌, ◌<◌, Bool, true, false, cond, List, [], ◌∷◌, ◌++◌, length, arith}
use Rattle.std.proofs.Common.{length-append, subst, sym}
use Rattle.disk.specs.declared.block.BlockNo.{BlockNo}
use Rattle.objects.specs.Object.{ObjectBytes}
use Rattle.txn_law.specs.Group.{is_among, blocks_after}

-- a block more or none
pub grown : (blocks : List BlockNo) (block : BlockNo) (known : Bool)
    → length blocks ≤ length (cond known blocks (blocks ++ block ∷ []))
grown blocks block true = omega arith
grown blocks block false = omega (arith, length-append blocks (block ∷ []))

pub never_fewer : (blocks : List BlockNo) (objects : List ObjectBytes)
    → length blocks ≤ length (blocks_after blocks objects)
never_fewer blocks [] = omega arith
never_fewer blocks (o ∷ os) =
    omega (
      arith,
      grown blocks o.addr.block (is_among o.addr.block blocks),
      never_fewer (cond (is_among o.addr.block blocks) blocks (blocks ++ o.addr.block ∷ [])) os,
    )

-- where an object's block is new, there are fewer blocks than in the end
pub reserved_left : (blocks : List BlockNo) (objects : List ObjectBytes) (o : ObjectBytes)
    (rest : List ObjectBytes) → objects ≡ o ∷ rest → is_among o.addr.block blocks ≡ false
    → length blocks < length (blocks_after blocks objects)
reserved_left blocks objects o rest e fresh =
    subst (λ (os : List ObjectBytes). length blocks < length (blocks_after blocks os)) (sym e)
    (subst (λ (known : Bool). length blocks
    < length (blocks_after (cond known blocks (blocks ++ o.addr.block ∷ [])) rest)) (sym fresh)
    (omega (arith, length-append blocks (o.addr.block ∷ []), never_fewer (blocks ++ o.addr.block ∷ []) rest)))
