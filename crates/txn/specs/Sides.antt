-- The core by the side of the disk whose device call goes out or comes back: the logger's is the log's, the installer's
-- the home side.
use Rattle.std.specs.Prelude.{◌≡◌, ◌+◌, Bool, if◌then◌else◌}
use Rattle.disk.specs.Crash.{Image}
use Rattle.disk.specs.declared.block.Side.{Side}
use Rattle.disk.specs.declared.block.Side.TheVariants.{Log as LogSide, Home}
use Rattle.objects.specs.declared.present.Present.{Present}
use Rattle.txn_law.specs.Core.{CoreState, installed, past}
use Rattle.txn_law.specs.Leaves.{Leaves, in_memory, is_fetching, taken_by}
use Rattle.wal.specs.Sides.{with_out}
use Rattle.circ.specs.Log.Calls.{home_after}
use Rattle.circ.specs.Log.Installer.{is_inst_out}
use Rattle.circ.specs.Log.Io.{Io}
use Rattle.circ.specs.Log.Log.{Log, installed_place}

-- the core with one call more of the side that was handed out
abbrev pub counted : Side → CoreState → CoreState
counted LogSide core = record core { log_calls = core.log_calls + 1 }
counted Home core = record core { inst_calls = core.inst_calls + 1 }

-- the core once the side's next call is handed out
abbrev pub with_call : Side → CoreState → CoreState
with_call role core = counted role (record core { log = with_out role core.log })

-- As a call of the side is given back the log goes on, and the installer lets go of the commits that it has installed.
abbrev pub LetsGo : Side → CoreState → CoreState → Type 0
LetsGo LogSide old new = new ≡ record old { log = new.log }
LetsGo Home old new = (spare : Present → Bool) × (new ≡ installed spare old new.log)

-- what that leaves of the core, but for which blocks nobody needs any more
abbrev pub CoreBack : Side → CoreState → CoreState → Type 0
CoreBack LogSide old new = new ≡ record old { log = new.log }
CoreBack Home old new = new ≡ record old {
  log = new.log;
  records = past (installed_place new.log) old.records;
  present = new.present;
}

-- and of those
abbrev pub LeavesBack : Side → CoreState → CoreState → Type 0
LeavesBack LogSide old new = Unit {0}
LeavesBack Home old new = Leaves new (taken_by old) (is_fetching old) (in_memory old)

-- what is at home once a call of the side is given back: the installer's last one has brought it there
abbrev pub base_back : Side → Image → Log → Io → Bool → Image
base_back LogSide base log io ok = base
base_back Home base log io ok = if is_inst_out log io then home_after base log ok else base
