-- What a contract sees of the core. Its lists have no promised order, but that of the commits.
use Rattle.std.specs.Prelude.{◌≡◌, ℕ, ◌+◌, Bool, not, true, List, ◌∷◌, nat_eq, nat_lt}
use Rattle.std.specs.List.{filter, list_any}
use Rattle.circ.specs.Log.Installer.{with_inst_out}
use Rattle.circ.specs.Log.Log.{Log, installed_place}
use Rattle.circ.specs.Log.Logger.{with_log_out}
use Rattle.txn_law.specs.Holds.{released}
use Rattle.txn_law.specs.Records.{swept}
use Rattle.txn_law.specs.Window.{Footprint}
use Rattle.txn_law.specs.declared.hold.Hold.{Hold}
use Rattle.objects.specs.declared.present.Present.{Present}

pub record CoreState : Type 0 where
  -- the log in memory
  pub log : Log
  -- the count of the image's inodes
  pub inodes : ℕ
  -- how many transactions were begun
  pub begun : ℕ
  -- the transactions that are out
  pub out : List ℕ
  -- what transactions have taken
  pub holds : List Hold
  -- the blocks in memory besides the log's
  pub present : List Present
  -- the commits that aren't installed, oldest first
  pub records : List Footprint
  -- the boot number that the image was given by the opening
  pub boot : ℕ
  -- how many device calls of the log were handed out, and how many of the installer
  pub log_calls : ℕ
  pub inst_calls : ℕ
  -- how often memory was refused to transactions
  pub refused : ℕ

-- the transaction is out
abbrev pub IsOut : CoreState → ℕ → Type 0
IsOut core tx = list_any (λ other. nat_eq other tx) core.out ≡ true

-- the core once a transaction was begun, by the next number
abbrev pub with_begun : CoreState → CoreState
with_begun core = record core { begun = core.begun + 1; out = (core.begun + 1) ∷ core.out }

-- the core once the log's next device call is handed out,
abbrev pub with_log_call : CoreState → CoreState
with_log_call core = record core { log = with_log_out core.log; log_calls = core.log_calls + 1 }

-- and the installer's
abbrev pub with_inst_call : CoreState → CoreState
with_inst_call core = record core { log = with_inst_out core.log; inst_calls = core.inst_calls + 1 }

-- the core once memory was refused to a transaction
abbrev pub with_refused : CoreState → CoreState
with_refused core = record core { refused = core.refused + 1 }

-- the transactions that are out once this one has ended
abbrev pub without : ℕ → List ℕ → List ℕ
without tx out = filter (λ other. not (nat_eq other tx)) out

-- the core once the transaction has ended, where these blocks are spared
abbrev pub ended : (Present → Bool) → CoreState → ℕ → CoreState
ended spare core tx = record core {
  out = without tx core.out;
  holds = released core.holds tx;
  present = swept spare (released core.holds tx) core.records core.present;
}

-- the records of the commits past a place
abbrev pub past : ℕ → List Footprint → List Footprint
past place records = filter (λ kept. nat_lt place kept.place) records

-- the core once its log has gone on, without the records of the commits that it has installed
abbrev pub installed : (Present → Bool) → CoreState → Log → CoreState
installed spare core log = record core {
  log = log;
  records = past (installed_place log) core.records;
  present = swept spare core.holds (past (installed_place log) core.records) core.present;
}
