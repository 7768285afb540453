-- A device call of the log or of the installer is one call of the device.
use Rattle.std.proofs.Common.{◌≡◌, ◌∙◌, ◌||◌, ◌&&◌, Bool, true, false, refl, Result, Ok, Err, is_ok, is_err}
use Rattle.std.proofs.Common.{nat_eq}
use Rattle.circ.specs.Log.Recovery.{IsCertain}
use Rattle.disk.specs.Device.{Content, Device, OneLater}
use Rattle.disk.specs.declared.device.Failed.{Failed}
use Rattle.circ.specs.Log.Io.{Io, HasMade, HasMadeCall}
use Rattle.circ.specs.declared.log.calls.IoCall.{IoCall}
use Rattle.circ.specs.declared.log.calls.IoCall.TheVariants.{Write, Barrier}

call_later : (old : Device) (call : IoCall) (content : Content) (result : Result Unit Failed) (new : Device)
    → HasMadeCall old call content result new → OneLater old new
call_later old (Write block) content result new made = made.later
call_later old (Barrier side) content result new made = made.later

pub made_later : (old : Device) (io : Io) (result : Result Unit Failed) (new : Device)
    → HasMade old io result new → OneLater old new
made_later old io result new made = call_later old io.call io.content result new made

-- a write or a barrier, which is lost where it failed
call_lost : (old : Device) (call : IoCall) (content : Content) (result : Result Unit Failed) (new : Device)
    → HasMadeCall old call content result new → new.lost old.clock ≡ is_err result
call_lost old (Write block) content result new made = made.lost
call_lost old (Barrier side) content result new made = made.lost

pub made_lost : (old : Device) (io : Io) (result : Result Unit Failed) (new : Device)
    → HasMade old io result new → new.lost old.clock ≡ is_err result
made_lost old io result new made = call_lost old io.call io.content result new made

-- so it leaves the count of blocks
pub made_size : (old : Device) (io : Io) (result : Result Unit Failed) (new : Device)
    → HasMade old io result new → new.size ≡ old.size
made_size old io result new made = (made_later old io result new made).size

-- a call that was made well makes no block uncertain
pub made_clean : (old : Device) (io : Io) (result : Result Unit Failed) (new : Device)
    → HasMade old io result new → is_ok result ≡ true → IsCertain old → IsCertain new
made_clean old io result new made ok clean block = by_call io.call result made ok
  where
    no_more : (was same : Bool) → was ≡ false → (was || (false && same)) ≡ false
    no_more true same is = cc
    no_more false same is = refl

    by_call : (call : IoCall) (result : Result Unit Failed) → HasMadeCall old call io.content result new
        → is_ok result ≡ true → new.uncertain block ≡ false
    by_call (Write at) (Ok _) made ok =
        made.uncertain block ∙ no_more (old.uncertain block) (nat_eq block at.0) (clean block)
    by_call (Write at) (Err _) made ok = cc
    by_call (Barrier side) result made ok = made.uncertain block ∙ clean block
