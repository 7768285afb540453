-- Why the reading of a data block stops.
use Rattle.std.proofs.Common.{◌≡◌, ℕ, sym, ap, ◌∙◌, subst, true, Result, Ok, Err, IfErr}
use Rattle.base.specs.declared.TheConstants.{BLOCK_BYTES}
use Rattle.objects.specs.declared.addr.Addr.{Addr}
use Rattle.objects.specs.declared.mode.Mode.{Mode}
use Rattle.layout.specs.Objects.IsObject.{whole}
use Rattle.layout.specs.Places.{is_data}
use Rattle.inode.specs.declared.snap.Snap.{Snap}
use Rattle.inode.specs.declared.suspend.Suspend.{Suspend}
use Rattle.inode.specs.declared.suspend.Suspend.TheVariants as suspend
use Rattle.inode.specs.Asked.{IsBlockAddr, IsSuspendFor, MaySuspendFor}
use Rattle.inode.specs.Over.{IsResumable, MaySuspend}
use Rattle.inode.specs.Snap.{IsNew}

-- what two facts of an error make
pub both_err : {T E : Type 0} (r : Result T E) (P Q R : E → Type 0) → ((e : E) → P e → Q e → R e) → IfErr r P
    → IfErr r Q → IfErr r R
both_err (Ok t) P Q R f p q = tt
both_err (Err e) P Q R f p q = f e p q

pub block_suspend : (snap : Snap) (number : ℕ) (addr : Addr) (why : Suspend) → is_data snap.geometry number ≡ true
    → addr.block.0 ≡ number → addr.offset ≡ 0 → addr.len ≡ BLOCK_BYTES → IsNew snap why → why ≡ suspend.Need addr snap.asks
    → MaySuspend snap why
block_suspend snap number addr why placed block offset len new e =
    subst (MaySuspend snap) (sym e)
    (subst (IsNew snap) e new, whole (ap (is_data snap.geometry) block ∙ placed) offset len)

pub block_resumable : (addr : Addr) (mode : Mode) (why : Suspend) → why ≡ suspend.Need addr mode → IsResumable why
block_resumable addr mode why e = subst IsResumable (sym e) tt

-- ---- what it stops for

pub at_err : {T E : Type 0} (r : Result T E) (e : E) (P : E → Type 0) → r ≡ Err e → P e → IfErr r P
at_err {T} {E} r e P is p = subst (λ (one : Result T E). IfErr one P) (sym is) p

module _ (P Q : Addr → Type 0) (more : (addr : Addr) → P addr → Q addr) where
  pub suspend_more : (why : Suspend) → IsSuspendFor P why → IsSuspendFor Q why
  suspend_more (suspend.Need addr mode) asked = more addr asked
  suspend_more (suspend.Claim block) asked = absurd asked
  suspend_more suspend.Io asked = tt
  suspend_more (suspend.NoMemory error) asked = absurd asked

  pub may_suspend_more : (why : Suspend) → MaySuspendFor P why → MaySuspendFor Q why
  may_suspend_more (suspend.Need addr mode) asked = more addr asked
  may_suspend_more (suspend.Claim block) asked = absurd asked
  may_suspend_more suspend.Io asked = tt
  may_suspend_more (suspend.NoMemory error) asked = tt

  pub suspend_may : (why : Suspend) → IsSuspendFor P why → MaySuspendFor Q why
  suspend_may (suspend.Need addr mode) asked = more addr asked
  suspend_may (suspend.Claim block) asked = absurd asked
  suspend_may suspend.Io asked = tt
  suspend_may (suspend.NoMemory error) asked = absurd asked

pub block_asked : (number : ℕ) (addr : Addr) (mode : Mode) (why : Suspend) → IsBlockAddr number addr
    → why ≡ suspend.Need addr mode → IsSuspendFor (IsBlockAddr number) why
block_asked number addr mode why at e = subst (IsSuspendFor (IsBlockAddr number)) (sym e) at
