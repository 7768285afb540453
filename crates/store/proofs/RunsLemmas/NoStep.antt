-- Where a side has nothing to do, its event makes no step.
use Rattle.std.proofs.Common.{◌≡◌, ◌∙◌, refl, subst, sym, Bool, true, false, Some, None}
use Rattle.disk.specs.Device.{Device}
use Rattle.disk.specs.declared.block.Side.{Side}
use Rattle.disk.specs.declared.block.Side.TheVariants as sides
use Rattle.store_promise.specs.NextCall.{IsNextOfInstalling, next_log_call}
use Rattle.store_promise.specs.Running.{IsLogStep, IsMovedBy, side}
use Rattle.store_promise.specs.Schedule.{IsNextOfInstaller, IsNextOfLog}
use Rattle.store_promise.specs.LogStateOf.{log_state_of}
use Rattle.store_promise.proofs.LogStateIs.{may_install_is, may_log_is}
use Rattle.txn_law.specs.Core.{CoreState}
use Rattle.wal.specs.Sides.{may_call}
use Rattle.circ.specs.Log.Calls.{Pending, idle, out}
use Rattle.circ.specs.Log.Io.{Io}
use Rattle.circ.specs.Log.Log.{IsLawful}
use Rattle.store_images.proofs.LogSteps.{no_step}
use Rattle.store_images.specs.LogCallState.{MayInstIo, MayInstall, MayLog, MayLogIo, MayMake, MayStep, pending_of}
use Rattle.store_images.specs.LogCallState.{store_state_with}

module _ (d : Device) (core : CoreState) (other : Pending) (moved : IsMovedBy d None d) where
  -- none is out, and there is none to take
  pub none_to_take : (of : Side) → IsLawful core.log → may_call of core.log ≡ false
      → IsLogStep (MayStep of) (store_state_with of d core idle other) None (store_state_with of d core idle other)
  none_to_take sides.Log lawful none = no_step MayLog (side d core idle other) moved (λ o base over. (
    subst (λ (b : Bool). IsNextOfLog b (next_log_call o.position (log_state_of o.position core.log idle other)) None)
        (sym (may_log_is o.position core.log other lawful over.agrees.logger ∙ none)) refl,
    refl,
    over,
  ))
  none_to_take sides.Home lawful none = no_step MayInstall (side d core other idle) moved (λ o base over. (
    subst (λ (b : Bool). IsNextOfInstaller b
        (IsNextOfInstalling o.geometry.blocks (log_state_of o.position core.log other idle)) None)
        (sym (may_install_is o.position core.log other over.agrees.installer ∙ none)) refl,
    refl,
    over,
  ))

  -- one is out that wasn't made
  pub none_to_give : (of : Side) (io : Io)
      → IsLogStep (MayStep of) (store_state_with of d core (out io) other) None (store_state_with of d core (out io) other)
  none_to_give sides.Log io = no_step MayLog (side d core (out io) other) moved (λ o base over. (refl, refl, over))
  none_to_give sides.Home io =
      no_step MayInstall (side d core other (out io)) moved (λ o base over. (refl, refl, over))

  -- none is out to be made
  pub none_to_make : (of : Side)
      → IsLogStep (MayMake of) (store_state_with of d core idle other) None (store_state_with of d core idle other)
  none_to_make sides.Log = no_step MayLogIo (side d core idle other) moved (λ o base over. (refl, refl, over))
  none_to_make sides.Home = no_step MayInstIo (side d core other idle) moved (λ o base over. (refl, refl, over))

  -- the one that is out was made
  pub was_made_before : (of : Side) (io : Io) (ok : Bool)
      → IsLogStep (MayMake of) (store_state_with of d core (pending_of (Some io) (Some ok)) other) None
      (store_state_with of d core (pending_of (Some io) (Some ok)) other)
  was_made_before sides.Log io true =
      no_step MayLogIo (side d core (pending_of (Some io) (Some true)) other) moved (λ o base over. (refl, refl, over))
  was_made_before sides.Log io false =
      no_step MayLogIo (side d core (pending_of (Some io) (Some false)) other) moved (λ o base over. (refl, refl, over))
  was_made_before sides.Home io true =
      no_step MayInstIo (side d core other (pending_of (Some io) (Some true))) moved (λ o base over. (refl, refl, over))
  was_made_before sides.Home io false =
      no_step MayInstIo (side d core other (pending_of (Some io) (Some false))) moved (λ o base over. (refl, refl, over))
