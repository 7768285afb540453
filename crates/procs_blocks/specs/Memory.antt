-- Want of memory is no fault of what is read.
use Rattle.std.specs.Prelude.{◌≡◌, alloc_error}
use Rattle.std.proofs.Common.{subst, sym}
use Rattle.inode.specs.declared.snap.Snap.{Snap}
use Rattle.inode.specs.declared.suspend.Suspend.{Suspend}
use Rattle.inode.specs.declared.suspend.Suspend.TheVariants as suspend
use Rattle.inode.specs.Over.{IsResumable, MaySuspend}

pub may_lack_memory : (snap : Snap) (why : Suspend) → why ≡ suspend.NoMemory alloc_error → MaySuspend snap why
may_lack_memory snap why is = subst (MaySuspend snap) (sym is) tt

pub memory_is_no_fault : (why : Suspend) → why ≡ suspend.NoMemory alloc_error → IsResumable why
memory_is_no_fault why is = subst IsResumable (sym is) tt
