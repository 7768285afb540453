-- A write or a barrier that failed, and stores that broke by it.
use Rattle.std.proofs.Common.{arith, ◌≡◌, ◌∙◌, ◌-◌, ℕ, ◌+◌, ◌<◌, ◌≤◌, inl, inr, Bool, true, false}
use Rattle.std.proofs.Common.{Err, if◌then◌else◌, refl, sym, true≢false}
use Rattle.std.proofs.lemmas.Bool.{cases_lt}
use Rattle.disk.specs.Device.{CountsFailure, Device, OneLater}
use Rattle.disk.specs.Failures.{failures_from}
use Rattle.disk.specs.declared.device.Failed.{Failed}
use Rattle.disk.proofs.Failures.{none_failed}
use Rattle.wal.specs.Log.{Log}
use Rattle.store_promise.specs.Openings.{IsLater}
use Rattle.store_images.specs.Settling.{HasBroken, HasFailed, HasLost}

was_one : (failed : Bool) (old new : ℕ) → new ≡ old + (if failed then 1 else 0) → new ≡ old + 1
    → failed ≡ true
was_one true old new counted one = refl
was_one false old new counted one = absurd (omega (arith, counted, one))

-- it was this call
pub lost_now : (before after : Device) (error : Failed) → OneLater before after
    → CountsFailure before after (Err error) → after.lost before.clock ≡ true → HasLost before after
lost_now before after error later counts lost = record {
  call = before.clock;
  since = omega arith;
  below = let clock = later.clock in omega (arith, clock);
  failed = was_one (after.failed before.clock) before.failures after.failures later.counted counts;
  lost = lost;
}

-- what was lost by then is lost later on,
pub lost_then : (before middle after : Device) → IsLater middle after → HasLost before middle
    → HasLost before after
lost_then before middle after past was = record {
  call = was.call;
  since = was.since;
  below = let below = was.below in let clock = past.clock in omega (arith, below, clock);
  failed = past.failed was.call was.below ∙ was.failed;
  lost = past.lost was.call was.below ∙ was.lost;
}

-- and what was lost since then was lost since before
pub lost_since : (before middle after : Device) → before.clock ≤ middle.clock → HasLost middle after
    → HasLost before after
lost_since before middle after earlier was = record {
  call = was.call;
  since = let since = was.since in omega (arith, earlier, since);
  below = was.below;
  failed = was.failed;
  lost = was.lost;
}

-- a store that broke by then, and one that broke since then
pub broken_then : (log : Log) (before middle after : Device) → IsLater middle after
    → HasBroken log before middle → HasBroken log before after
broken_then log before middle after past (inl broken) = inl broken
broken_then log before middle after past (inr was) = inr (lost_then before middle after past was)

pub broken_along : (log between : Log) (before middle after : Device) → IsLater before middle
    → IsLater middle after → (between.broken ≡ true → HasBroken log before middle)
    → HasBroken between middle after → HasBroken log before after
broken_along log between before middle after first second was (inl broken) =
    broken_then log before middle after second (was broken)
broken_along log between before middle after first second was (inr lost) =
    inr (lost_since before middle after first.clock lost)

-- such a call was counted
pub lost_counted : (before after : Device) → IsLater before after → HasLost before after
    → before.failures < after.failures
lost_counted before after past was =
    let counted = past.counted in
    let clock = past.clock in
    let since = was.since in
    let below = was.below in
    let count : ℕ = after.clock - before.clock in
    elim (cases_lt 0 (failures_from after.failed before.clock count)) [
      | inl some ↦ omega (arith, counted, some)
      | inr none ↦ absurd (true≢false (sym was.failed
          ∙ none_failed after.failed before.clock count (omega (arith, none)) was.call since
          (omega (arith, below, clock))))
    ]

-- so what breaks a store is a failure
pub broken_failed : (log : Log) (before after : Device) → IsLater before after → HasBroken log before after
    → HasFailed log before after
broken_failed log before after past (inl broken) = inl broken
broken_failed log before after past (inr was) = inr (lost_counted before after past was)
