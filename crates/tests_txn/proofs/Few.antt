-- Lemma: objects lie in no more blocks than they are.
use Rattle.std.proofs.Common.{ℕ, ◌+◌, ◌≤◌, Bool, true, false, cond, List, [], ◌∷◌, ◌++◌, length}
use Rattle.std.proofs.Common.{length-append, arith}
use Rattle.disk.specs.declared.block.BlockNo.{BlockNo}
use Rattle.txn_law.specs.Object.{ObjectBytes}
use Rattle.txn_law.specs.Group.{is_among, blocks_after, blocks_of}

-- a block more or none
one_more : (blocks : List BlockNo) (block : BlockNo) (known : Bool)
    → length (cond known blocks (blocks ++ block ∷ [])) ≤ length blocks + 1
one_more blocks block true = omega arith
one_more blocks block false = omega (arith, length-append blocks (block ∷ []))

more : (blocks : List BlockNo) (objects : List ObjectBytes)
    → length (blocks_after blocks objects) ≤ length blocks + length objects
more blocks [] = omega arith
more blocks (o ∷ os) =
    omega (
      arith,
      one_more blocks o.addr.block (is_among o.addr.block blocks),
      more (cond (is_among o.addr.block blocks) blocks (blocks ++ o.addr.block ∷ [])) os,
    )

pub no_more_blocks : (objects : List ObjectBytes) → length (blocks_of objects) ≤ length objects
no_more_blocks objects = omega (arith, more [] objects)
