use Rattle.std.proofs.Common.{◌≡◌, false, take}
use Rattle.inode.specs.Snap.{is_seen}
use Rattle.inode.proofs.lookup.walk.Given as goal

abbrev pub invariant-loop-object : goal.invariant-loop-object
invariant-loop-object l = is_seen l.addr (take l.object-index l.objects) ≡ false
