-- What a look at a directory stops for.
use Rattle.std.proofs.Common.{◌≡◌, ℕ, ◌<◌, List, None, subst}
use Rattle.disk.specs.Crash.{Image}
use Rattle.objects.specs.declared.addr.Addr.{Addr}
use Rattle.nfs_spec.specs.Model.Tree.{Tree}
use Rattle.layout.specs.declared.inode.Inode.{Inode}
use Rattle.layout.specs.Decode.{span_of}
use Rattle.layout.specs.Parts.{content_in}
use Rattle.inode.specs.declared.snap.Snap.{Snap}
use Rattle.inode.specs.declared.suspend.Suspend.{Suspend}
use Rattle.inode.specs.Asked.{IsNeededAt, IsSuspendFor, MaySuspendFor}
use Rattle.inode.proofs.Stops.{may_suspend_more, suspend_may, suspend_more}
use Rattle.dir.specs.declared.cursor.SearchCursor.{SearchCursor}
use Rattle.dir.specs.Asked.{IsNeededBehind, IsAtCursor, IsAtCursorOrRestarted, LackBefore}
use Rattle.dir.specs.Asked.IsAtCursorOrRestarted.{restarted, next}
use Rattle.dir.specs.Slots.{IsDirectoryOf, Lying, slot_at}

pub still_needed : (snap : Snap) (inode : Inode) (index : ℕ) (why : Suspend) → IsSuspendFor (IsNeededAt snap inode index) why
    → MaySuspendFor (IsNeededAt snap inode index) why
still_needed snap inode index =
    suspend_may (IsNeededAt snap inode index) (IsNeededAt snap inode index) (λ addr needed. needed)

module _ (known : ℕ → Lying → Type 0) (snap : Snap) (inode : Inode) (index : ℕ) (within : index < span_of inode)
    (scanned : (blocks : Image) (tree : Tree) (file : ℕ) → IsDirectoryOf snap blocks tree file inode
    → known index (slot_at snap.geometry.inodes (content_in snap.geometry blocks) inode)) where
  is_behind : (addr : Addr) → IsNeededAt snap inode index addr → IsNeededBehind known snap inode addr
  is_behind addr needed = record { index = index; within = within; scanned = scanned; needed = needed }

  pub behind : (why : Suspend) → IsSuspendFor (IsNeededAt snap inode index) why
      → IsSuspendFor (IsNeededBehind known snap inode) why
  behind = suspend_more (IsNeededAt snap inode index) (IsNeededBehind known snap inode) is_behind

  pub may_behind : (why : Suspend) → MaySuspendFor (IsNeededAt snap inode index) why
      → MaySuspendFor (IsNeededBehind known snap inode) why
  may_behind = may_suspend_more (IsNeededAt snap inode index) (IsNeededBehind known snap inode) is_behind

module _ (snap : Snap) (inode : Inode) (cursor : SearchCursor) where
  pub at_cursor : cursor.found ≡ None → cursor.blocks < span_of inode → (why : Suspend)
      → IsSuspendFor (IsNeededAt snap inode cursor.blocks) why → IsSuspendFor (IsAtCursor snap inode cursor) why
  at_cursor none within =
      suspend_more (IsNeededAt snap inode cursor.blocks) (IsAtCursor snap inode cursor)
      (λ addr needed. record { none = none; within = within; needed = needed })

  pub known_next : cursor.found ≡ None → cursor.blocks < span_of inode → (why : Suspend)
      → IsSuspendFor (IsNeededAt snap inode cursor.blocks) why → IsSuspendFor (IsAtCursorOrRestarted snap inode cursor) why
  known_next none within =
      suspend_more (IsNeededAt snap inode cursor.blocks) (IsAtCursorOrRestarted snap inode cursor)
      (λ addr needed. next (record { none = none; within = within; needed = needed }))

  pub known_restarted : (name : List ℕ) → name ≡ cursor.name → (why : Suspend)
      → IsSuspendFor (IsNeededBehind (LackBefore name) snap inode) why → IsSuspendFor (IsAtCursorOrRestarted snap inode cursor) why
  known_restarted name same =
      suspend_more (IsNeededBehind (LackBefore name) snap inode) (IsAtCursorOrRestarted snap inode cursor)
      (λ addr needed. restarted (subst (λ (one : List ℕ). IsNeededBehind (LackBefore one) snap inode addr) same needed))
