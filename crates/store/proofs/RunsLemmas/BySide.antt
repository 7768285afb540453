-- Logger and installer by the side: what one of them has out, and what a step of it leaves of a run.
use Rattle.std.proofs.Common.{◌≡◌, ap, subst, sym, ℕ, Bool, Option, Some, None}
use Rattle.disk.specs.Device.{Device, current}
use Rattle.disk.specs.declared.block.Side.{Side}
use Rattle.disk.specs.declared.block.Side.TheVariants as sides
use Rattle.wal_calls.specs.Callers.Making.{IsAnswered}
use Rattle.wal_calls.specs.Callers.Steps.{HasStepped, comes_back, goes_out}
use Rattle.wal_calls.specs.declared.callers.stepped.Stepped.{Stepped}
use Rattle.wal_calls.specs.declared.callers.stepped.Stepped.TheVariants.{Next, Done}
use Rattle.store_images.proofs.LogSteps.{of_installer, of_logger}
use Rattle.store_images.specs.LogCallState.{makes, store_state_with}
use Rattle.store_promise.specs.DeviceCalls.{DoesCallOut}
use Rattle.store_promise.specs.LogState.{LogState}
use Rattle.store_promise.specs.Running.{IsLogStep, side}
use Rattle.store_promise.specs.Schedule.{Setting}
use Rattle.store_promise.specs.LogStateOf.{call_state_of}
use Rattle.store_promise.specs.declared.events.Step.{Step}
use Rattle.store_promise.proofs.DeviceCalls.{does_call}
use Rattle.txn_law.specs.Core.{CoreState}
use Rattle.wal.specs.Sides.{call_is_made, may_call}
use Rattle.circ.specs.Log.Calls.{Pending, out}
use Rattle.circ.specs.Log.Io.{Io, IsCallWithin}
use Rattle.store.specs.Runs.Running.{AreWithin, DoesItsStep, IsWithin, other_caller, of_side, out_of, store_state_of}
use Rattle.store.specs.declared.runs.runs.run_events.Calls.{Calls}

-- ---- a step of a side

module _ (May : Setting → LogState → Option Step → Type 0) (made : Option Step) (d e : Device) (core new : CoreState)
    (calls later : Calls) (own next : Pending) where
  -- by what it had out and has out then
  pub of_calls : (of : Side) → out_of (of_side of calls) ≡ own → out_of (of_side of later) ≡ next
      → other_caller of later ≡ other_caller of calls
      → IsLogStep May (store_state_with of d core own (out_of (other_caller of calls))) made
      (store_state_with of e new next (out_of (other_caller of calls)))
      → IsLogStep May (store_state_of d core calls) made (store_state_of e new later)
  of_calls sides.Log own_is next_is same is =
      subst (λ (other : Pending). IsLogStep May (store_state_of d core calls) made (side e new (out_of later.logger) other))
      (sym (ap out_of same))
      (of_logger May made d e core new (out_of calls.installer) own next (out_of calls.logger) (out_of later.logger)
      own_is next_is is)
  of_calls sides.Home own_is next_is same is =
      subst (λ (other : Pending). IsLogStep May (store_state_of d core calls) made (side e new other (out_of later.installer)))
      (sym (ap out_of same))
      (of_installer May made d e core new (out_of calls.logger) own next (out_of calls.installer)
      (out_of later.installer) own_is next_is is)

-- a call that is made does what it is told to
pub does_made : (of : Side) (d e : Device) (core new : CoreState) (calls later : Calls) (io : Io) (ok : Bool)
    → out_of (of_side of calls) ≡ out io → IsAnswered (call_is_made of) d io ok e
    → DoesItsStep (store_state_of d core calls) (Some (makes of ok)) (store_state_of e new later)
does_made sides.Log d e core new calls later io ok is answered =
    subst (λ (p : Pending). DoesCallOut (call_state_of p) ok (current d) (current e)) (sym is)
    (does_call d e io answered.answer ok answered.ok_is answered.call)
does_made sides.Home d e core new calls later io ok is answered =
    subst (λ (p : Pending). DoesCallOut (call_state_of p) ok (current d) (current e)) (sym is)
    (does_call d e io answered.answer ok answered.ok_is answered.call)

-- ---- what is out goes to a block of the image

pub is_within : (of : Side) (blocks : ℕ) (calls : Calls) → AreWithin blocks calls
    → IsWithin blocks (of_side of calls).io
is_within sides.Log blocks calls within = within.logging
is_within sides.Home blocks calls within = within.installing

goes_within : (of : Side) (old new : CoreState) (io : Io) → goes_out of old io new
    → IsCallWithin old.log.blocks io.call
goes_within sides.Log old new io goes = goes.within
goes_within sides.Home old new io goes = goes.within

pub stays_within : (of : Side) (old new : CoreState) (had : Option Io) (made : Option Bool) (step_result : Option Stepped)
    (next : Option Io) (later : Option Bool)
    → HasStepped (may_call of) (goes_out of) (comes_back of) old had made step_result new next later
    → IsWithin old.log.blocks had → IsWithin old.log.blocks next
stays_within of old new None made (Some (Next call)) (Some io) later is within = goes_within of old new io is.0
stays_within of old new None made (Some (Next call)) None later is within = tt
stays_within of old new None made (Some (Done ok)) next later is within = absurd is
stays_within of old new None made None next later is within = subst (IsWithin old.log.blocks) (sym is.1) tt
stays_within of old new (Some io) (Some ok) (Some (Done step_result)) next later is within =
    subst (IsWithin old.log.blocks) (sym is.2) tt
stays_within of old new (Some io) (Some ok) (Some (Next call)) next later is within = absurd is
stays_within of old new (Some io) (Some ok) None next later is within = absurd is
stays_within of old new (Some io) None None next later is within =
    subst (IsWithin old.log.blocks) (sym is.1) within
stays_within of old new (Some io) None (Some stepped) next later is within = absurd is
