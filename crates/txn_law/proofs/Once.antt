-- Lemmas: the blocks of objects stand there once.
use Rattle.std.proofs.Common.{◌≡◌, Bool, true, false, if◌then◌else◌, List, [], ◌∷◌, ◌++◌, refl}
use Rattle.disk.specs.declared.block.BlockNo.{BlockNo}
use Rattle.objects.specs.Object.{ObjectBytes}
use Rattle.circ.specs.Log.Log.{AreOnce, is_among}
use Rattle.circ.proofs.LogLemmas.Once.{once-push}
use Rattle.txn_law.specs.Group.{blocks_after, blocks_of}

once-after : (blocks : List BlockNo) (objects : List ObjectBytes) → AreOnce blocks
    → AreOnce (blocks_after blocks objects)
once-after blocks [] h = h
once-after blocks (o ∷ os) h =
    once-after (if is_among o.addr.block blocks then blocks else blocks ++ o.addr.block ∷ []) os
    (go (is_among o.addr.block blocks) refl)
  where
    go : (t : Bool) → is_among o.addr.block blocks ≡ t
        → AreOnce (if t then blocks else blocks ++ o.addr.block ∷ [])
    go true e = h
    go false e = once-push blocks o.addr.block h e

-- a change has each of its blocks once
pub once_of : (objects : List ObjectBytes) → AreOnce (blocks_of objects)
once_of objects = once-after [] objects tt
