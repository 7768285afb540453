-- A store to which memory was refused is open as it was.
use Rattle.std.proofs.Common.{◌≡◌, refl}
use Rattle.disk.specs.Crash.{Image}
use Rattle.txn_law.proofs.CoreLaws.{home_refused}
use Rattle.txn_law.proofs.StaysWellFormed.{well_formed_refused}
use Rattle.txn_law.specs.Core.{with_refused}
use Rattle.circ.specs.Log.Calls.{idle}
use Rattle.store_images.specs.Opening.{Opened}
use Rattle.store_promise.specs.OpenSince.{IsOpenSince}
use Rattle.store_promise.proofs.OpenSteps.{same_changes, still_open}
use Rattle.session.specs.Filing.{Files, IsOpenFor}
use Rattle.session.specs.Replying.{lacking}

pub open_lacking : (old : Opened) (files : Files) → IsOpenFor old files → IsOpenFor (lacking old) files
open_lacking old files is = record {
  base = is.base;
  opened = record {
    since = still_open is.base old.core (with_refused old.core)
        (record { log = same_changes old.core.log old.core.log refl; inodes = refl; records = refl; boot = refl })
        old.device old.device idle idle idle idle old.boot files.first files.last files.entries is.opened.since
        (record {
          lawful = is.opened.since.over.lawful;
          well_formed = well_formed_refused old.core is.opened.since.over.well_formed;
          home = home_refused old.core is.base is.opened.since.over.files.home;
        })
        is.opened.since.over.agrees is.opened.since.over.readable;
    stands = is.opened.stands;
    fetched = is.opened.fetched;
  };
}
