use Rattle.std.proofs.Common.{◌≡◌, ◌<◌, ℕ, true, false, take, length, get_or, nat_eq}
use Rattle.std.specs.List.{list_any}
use Rattle.objects.specs.Object.{ObjectBytes}
use Rattle.inode.specs.Snap.{same_addr}
use Rattle.inode.proofs.lookup.find_object.Given as goal

abbrev pub invariant-loop-position : goal.invariant-loop-position
invariant-loop-position l =
    (at : ℕ) → list_any (nat_eq at) (take l.position-index l.positions) ≡ true → at < length l.objects
    → (d : ObjectBytes) → same_addr l.addr (get_or l.objects at d).addr ≡ false
