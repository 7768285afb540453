-- What the step of an index did, by the clock of its call.
use Rattle.std.proofs.Common.{◌≡◌, ◌∙◌, ap, subst, ℕ, ◌+◌, ◌-◌, ◌<◌, ◌≤◌, arith, Bool, true, List}
use Rattle.std.proofs.Common.{[], ◌∷◌, if◌then◌else◌, Option, Some, length, length-append}
use Rattle.std.proofs.Common.{slice_get}
use Rattle.std.proofs.lemmas.List.{length-drop}
use Rattle.disk.specs.Device.{Content, Device, is_on, newest_only}
use Rattle.disk.specs.declared.block.Side.{Side}
use Rattle.nfs_spec.specs.Model.Tree.{Tree}
use Rattle.circ.specs.declared.log.calls.IoCall.{IoCall}
use Rattle.circ.specs.declared.log.calls.IoCall.TheVariants.{Barrier}
use Rattle.store_promise.specs.declared.events.Step.{Step}
use Rattle.store_promise.specs.declared.events.Step.TheVariants as step
use Rattle.store_promise.specs.DeviceCalls.{Contents, DoesCall, DoesCallOut, DoesStepBy, HasOneMore}
use Rattle.store_promise.specs.FailedCalls.{one_if}
use Rattle.store_promise.specs.Headline.{PreservesPromise}
use Rattle.store_promise.specs.LogState.{CallState, out}
use Rattle.store_promise.specs.Schedule.{Schedule, state_before}
use Rattle.store_promise.specs.Transcript.{Transcript, calls_device, device_calls}

module _ (before later : Device) (tree : Tree) (first workers start index : ℕ) (events : Schedule)
    (t : Transcript) (made : Option Step) (clock : later.clock ≡ start + device_calls t (length t.steps))
    (is : slice_get t.steps index ≡ Some made)
    (is_preserved : PreservesPromise before later tree first workers events t) where
  abbrev at : ℕ
  at = start + device_calls t index

  start_is : is_preserved.opened.clock ≡ start
  start_is = let calls = is_preserved.calls.clock in omega (arith, calls, clock)

  pub did : DoesStepBy (state_before events t.steps index).log made (later.contents at)
      (later.contents (at + one_if (calls_device made)))
  did = subst (λ (n : ℕ). DoesStepBy (state_before events t.steps index).log made
      (later.contents (n + device_calls t index))
      (later.contents (n + device_calls t index + one_if (calls_device made)))) start_is
      (is_preserved.calls.did index made is)

  module _ (call : IoCall) (ok : Bool) (made_is : made ≡ Some (step.LogIo ok))
      (out_is : (state_before events t.steps index).log.log_call ≡ out call) where
    pub logged : DoesCall call ok (later.contents at) (later.contents (at + 1))
    logged =
        subst (λ (c : CallState). DoesCallOut c ok (later.contents at) (later.contents (at + 1))) out_is
        (subst (λ (m : Option Step). DoesStepBy (state_before events t.steps index).log m (later.contents at)
        (later.contents (at + one_if (calls_device m)))) made_is did)

-- a block of a barrier's side has one content behind it
newest_one : (old new : List Content) (on : Bool) → on ≡ true
    → new ≡ (if on then newest_only old else old) → 1 < length new → ⊥
newest_one old new on is same long =
    let only_newest : new ≡ newest_only old = same ∙ ap (λ (b : Bool). if b then newest_only old else old) is in
    let count = length-drop (length old - 1) old in
    let lengths = ap (λ (l : List Content). length l) only_newest in
    omega (arith, count, lengths, long)

pub not_settled : (side : Side) (block : ℕ) (old new : Contents) → is_on side block ≡ true
    → DoesCall (Barrier side) true old new → 1 < length (new block) → ⊥
not_settled side block old new on did long =
    newest_one (old block) (new block) (is_on side block) on (did block) long

-- a write that was made well brings a content
pub no_more : (old new : List Content) → HasOneMore old new → length new ≤ length old → ⊥
no_more old new more few =
    let lengths = ap (λ (l : List Content). length l) more.1 in
    let count = length-append old (more.0 ∷ []) in
    omega (arith, lengths, count, few)
