-- What is asked for an index of a file, and for a range of them.
use Rattle.std.proofs.Common.{ℕ, ◌*◌, ◌/◌, ◌<◌, ◌≤◌, arith}
use Rattle.base.specs.declared.TheConstants.{BLOCK_BYTES}
use Rattle.layout.specs.declared.inode.Inode.{Inode}
use Rattle.inode.specs.declared.snap.Snap.{Snap}
use Rattle.inode.specs.declared.suspend.Suspend.{Suspend}
use Rattle.inode.specs.Asked.{IsBlockAddr, IsNeededAt, IsNeededBetween, IsNumberAt, IsPointerFor, IsSuspendFor}
use Rattle.inode.specs.Asked.{MaySuspendFor}
use Rattle.inode.specs.Asked.IsNeededAt.{mapped, pointer}
use Rattle.inode.proofs.Stops.{may_suspend_more, suspend_may, suspend_more}

module _ (snap : Snap) (inode : Inode) (index : ℕ) where
  pub indirect_at : (why : Suspend) → IsSuspendFor (IsPointerFor snap.objects.items inode index) why
      → IsSuspendFor (IsNeededAt snap inode index) why
  indirect_at = suspend_more (IsPointerFor snap.objects.items inode index) (IsNeededAt snap inode index)
      (λ addr at. pointer at)

  pub mapped_at : (number : ℕ) → IsNumberAt snap.objects.items inode index number → (why : Suspend)
      → IsSuspendFor (IsBlockAddr number) why → IsSuspendFor (IsNeededAt snap inode index) why
  mapped_at number is = suspend_more (IsBlockAddr number) (IsNeededAt snap inode index) (λ addr at. mapped number is at)

  pub may_indirect_at : (why : Suspend) → IsSuspendFor (IsPointerFor snap.objects.items inode index) why
      → MaySuspendFor (IsNeededAt snap inode index) why
  may_indirect_at = suspend_may (IsPointerFor snap.objects.items inode index) (IsNeededAt snap inode index)
      (λ addr at. pointer at)

  pub may_mapped_at : (number : ℕ) → IsNumberAt snap.objects.items inode index number → (why : Suspend)
      → MaySuspendFor (IsBlockAddr number) why → MaySuspendFor (IsNeededAt snap inode index) why
  may_mapped_at number is =
      may_suspend_more (IsBlockAddr number) (IsNeededAt snap inode index) (λ addr at. mapped number is at)

  module _ (start end : ℕ) (from : start / BLOCK_BYTES ≤ index) (before : index * BLOCK_BYTES < end) where
    pub between : (why : Suspend) → IsSuspendFor (IsNeededAt snap inode index) why
        → IsSuspendFor (IsNeededBetween snap inode start end) why
    between = suspend_more (IsNeededAt snap inode index) (IsNeededBetween snap inode start end)
        (λ addr needed. record { index = index; from = from; before = before; needed = needed })

    pub may_between : (why : Suspend) → MaySuspendFor (IsNeededAt snap inode index) why
        → MaySuspendFor (IsNeededBetween snap inode start end) why
    may_between = may_suspend_more (IsNeededAt snap inode index) (IsNeededBetween snap inode start end)
        (λ addr needed. record { index = index; from = from; before = before; needed = needed })

module _ (snap : Snap) (inode : Inode) (start end more : ℕ) (fits : end ≤ more) where
  pub may_within : (why : Suspend) → MaySuspendFor (IsNeededBetween snap inode start end) why
      → MaySuspendFor (IsNeededBetween snap inode start more) why
  may_within = may_suspend_more (IsNeededBetween snap inode start end) (IsNeededBetween snap inode start more)
      (λ addr is. record {
        index = is.index;
        from = is.from;
        before = (let less = is.before in omega (arith, less, fits));
        needed = is.needed;
      })
