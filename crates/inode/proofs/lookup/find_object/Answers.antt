use Rattle.std.proofs.Common.{◌≡◌, ◌<◌, ℕ, false, length, get_or}
use Rattle.objects.specs.Object.{ObjectBytes}
use Rattle.inode.specs.Snap.{same_addr}
use Rattle.inode.proofs.KnownPositions.{grown}
use Rattle.inode.proofs.lookup.find_object.Goals as goal

pub loop-position-preserved : goal.loop-position-preserved
loop-position-preserved c =
    grown (λ (at : ℕ). at < length c.args.objects.now → (d : ObjectBytes)
    → same_addr c.args.addr (get_or c.args.objects.now at d).addr ≡ false) c.args.positions.now c.loop-position.position-index 0
    c.loop-position-test.true c.loop-position.invariant c.in-None.ensures.none
