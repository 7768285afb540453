-- What a procedure that was committed may have changed of the blocks.
use Rattle.std.specs.Prelude.{◌≡◌, ℕ, ◌+◌, ◌<◌, false, List, slice_get, Some}
use Rattle.disk.specs.Crash.{Image}
use Rattle.disk.specs.declared.block.BlockNo.{BlockNo}
use Rattle.objects.specs.declared.addr.Addr.{Addr}
use Rattle.objects.specs.declared.mode.Mode.TheVariants as modes
use Rattle.txn_law.specs.Window.{object_at}
use Rattle.circ.specs.Log.Log.{is_among}
use Rattle.store_promise.specs.declared.events.Committing.TheVariants as committing
use Rattle.store_promise.specs.declared.events.Step.TheVariants as step
use Rattle.store_promise.specs.declared.transcript.Committed.{Committed}
use Rattle.store_promise.specs.Progress.{At, Begun, Job, Planning, takes}
use Rattle.store_promise.specs.Schedule.{Schedule, progress_before, range_request_at}
use Rattle.store_promise.specs.Transcript.{Transcript, step_at}

-- Of an image of so many blocks, what shares no byte with what the transaction has taken alone has the bytes that
-- it had: what it shares with others, too.
abbrev pub PreservesOthers : ℕ → Begun → Image → Image → Type 0
PreservesOthers size begun old new = (addr : Addr) → addr.block.0 < size
    → takes (range_request_at addr modes.Shared) begun ≡ false
    → object_at new addr ≡ object_at old addr

-- Of an image of so many blocks, those that aren't among these are what they were.
abbrev pub PreservesUnnamed : ℕ → List BlockNo → Image → Image → Type 0
PreservesUnnamed size named old new = (block : BlockNo) → block.0 < size → is_among block named ≡ false
    → new block.0 ≡ old block.0

-- The procedure of a place changed the blocks before it only in what its transaction had taken alone when it was
-- committed, and of them only those that its commit names.
pub record ChangesItsOwn (size : ℕ) (events : Schedule) (t : Transcript) (blocks : ℕ → Image) (index : ℕ)
    (c : Committed) : Type 0 where
  pub job : Job
  pub begun : Begun
  pub planned : progress_before events t.steps c.worker c.event ≡ At job (Planning begun)
  pub named : List BlockNo
  pub step : step_at t c.event ≡ Some (step.Commit named (committing.Committed (record { 0 = index + 1 })))
  pub others : PreservesOthers size begun (blocks index) (blocks (index + 1))
  pub unnamed : PreservesUnnamed size named (blocks index) (blocks (index + 1))

-- so did each
abbrev pub ChangeTheirOwn : ℕ → Schedule → Transcript → (ℕ → Image) → Type 0
ChangeTheirOwn size events t blocks = (index : ℕ) (c : Committed) → slice_get t.history index ≡ Some c
    → ChangesItsOwn size events t blocks index c
