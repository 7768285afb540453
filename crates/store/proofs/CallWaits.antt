-- A call waits for the log, or doesn't.
use Rattle.std.proofs.Common.{◌≡◌, ◌∙◌, refl, sym, true≢false, Bool, true}
use Rattle.disk.specs.Device.{Device}
use Rattle.txn_law.specs.Core.{CoreState}
use Rattle.store.specs.Calling.{HasWaited}
use Rattle.store_images.specs.Further.{LeavesOpen}
use Rattle.store_images.specs.SettlingStops.{PreservesPrefixes}
use Rattle.store_images.proofs.Staying.{stays_of, still_open}
use Rattle.store_images.proofs.StillOpen.{same_open}

pub has_settled : (waits : Bool) (before later : Device) (old new : CoreState) → waits ≡ true
    → LeavesOpen before old later new → PreservesPrefixes before old later new
    → HasWaited waits before old later new
has_settled waits before later old new is opens preserves = record {
  opens = opens;
  stays = stays_of before later old new preserves;
  none = λ off. absurd (true≢false (sym is ∙ off));
}

pub has_not_waited : (waits : Bool) (d : Device) (core : CoreState) → HasWaited waits d core d core
has_not_waited waits d core = record {
  opens = same_open d core;
  stays = still_open d core;
  none = λ off. (refl, refl);
}
