-- What comes before an answer of IO: a device call that failed.
use Rattle.std.specs.Prelude.{◌≡◌, ℕ, ◌+◌, ◌<◌, ◌≤◌, ◌⊎◌, Bool, true, false, Option, Some, slice_get}
use Rattle.nfs_types.specs.declared.reply.Reply.{Reply}
use Rattle.nfs_types.specs.declared.status.Status.{Status}
use Rattle.nfs_types.specs.declared.status.Status.TheVariants as status
use Rattle.nfs_spec.specs.Procedures.Kinds.{tells_one_of}
use Rattle.store_promise.specs.declared.events.Event.{Event}
use Rattle.store_promise.specs.declared.events.Event.TheVariants as event
use Rattle.store_promise.specs.declared.transcript.Answer.{Answer}
use Rattle.store_promise.specs.Progress.{is_idle}
use Rattle.store_promise.specs.Schedule.{Schedule, progress_before}
use Rattle.store_promise.specs.Transcript.{Transcript, device_calls, fails, step_at}

abbrev pub is_io : Status → Bool
is_io status.Io = true
is_io _ = false

-- the reply is a refusal with IO (RFC 1813, section 2.6)
abbrev pub tells_io : Reply → Bool
tells_io reply = tells_one_of is_io reply

-- the event makes the device call of the log, or of the installer
abbrev pub IsOfLog : Option Event → Type 0
IsOfLog found = (found ≡ Some event.LogIo) ⊎ (found ≡ Some event.InstIo)

-- The event reads for a worker that has a call from then on to a later event, which is the same call all along.
pub record IsReadFor (events : Schedule) (t : Transcript) (worker index until : ℕ) : Type 0 where
  pub reads : slice_get events index ≡ Some (event.Read worker)
  pub going : (at : ℕ) → index ≤ at → at ≤ until → is_idle (progress_before events t.steps worker at) ≡ false

-- Before the event of an answer a step tells that its device call failed, and so did that very call: one of the
-- log or of the installer, or a read that was made for the call that is answered.
pub record HasFailedFor (failed : ℕ → Bool) (start : ℕ) (events : Schedule) (t : Transcript)
    (a : Answer) : Type 0 where
  pub index : ℕ
  pub earlier : index < a.event
  pub step_failed : fails (step_at t index) ≡ true
  pub so : failed (start + device_calls t index) ≡ true
  pub whose : IsOfLog (slice_get events index) ⊎ IsReadFor events t a.worker index a.event
