-- What a worker's end leaves of its core.
use Rattle.std.specs.Prelude.{◌≡◌, ℕ, Bool, Option, Some, None, List}
use Rattle.disk.specs.Device.{Content}
use Rattle.disk.specs.declared.block.BlockNo.{BlockNo}
use Rattle.objects.specs.declared.addr.Addr.{Addr}
use Rattle.txn_law.specs.Core.{CoreState, without}
use Rattle.txn_law.specs.CoreWindow.{PreservesHome, PreservesReads}
use Rattle.txn_law.specs.Fetch.{Fetch}
use Rattle.txn_law.specs.Leaves.{but_by, in_memory, is_fetching, taken_by, without_fetch}
use Rattle.txn_law.specs.declared.hold.Hold.{Hold}
use Rattle.store_workers.specs.declared.workers.parts.Begun.{Begun}

-- the transactions that are out, where one ends
abbrev pub but_out : Option ℕ → List ℕ → List ℕ
but_out None out = out
but_out (Some tx) out = without tx out

-- what is taken by the others, where a transaction ends
abbrev pub but_of : Option ℕ → (ℕ → Addr → Option Hold) → ℕ → Addr → Option Hold
but_of None taken = taken
but_of (Some tx) taken = but_by tx taken

-- the fetches that are pending, where one is given back
abbrev pub without_io : Option Fetch → (BlockNo → Bool) → BlockNo → Bool
without_io None fetching = fetching
without_io (Some io) fetching = without_fetch io.block fetching

-- nothing has come into memory
abbrev pub BringsNothing : CoreState → CoreState → Type 0
BringsNothing old new = (block : BlockNo) (content : Content) → in_memory new block ≡ Some content
    → in_memory old block ≡ Some content

-- A fetch was given back, if there was one: it is pending no more, and of the core nothing else has changed.
pub record GivesFetchBack (io : Option Fetch) (old new : CoreState) : Type 0 where
  pub only : new ≡ record old { present = new.present }
  pub fetches : (block : BlockNo) → is_fetching new block ≡ without_io io (is_fetching old) block
  pub memory : BringsNothing old new
  pub stays : (other : ℕ) → PreservesReads old new other
  pub home : PreservesHome old new

-- A transaction has ended, if there was one: what it had taken is free, and what others have taken stays.
pub record GivesTransactionBack (tx : Option ℕ) (old new : CoreState) : Type 0 where
  pub only : new ≡ record old { out = but_out tx old.out; holds = new.holds; present = new.present }
  pub holds : (other : ℕ) (addr : Addr) → taken_by new other addr ≡ but_of tx (taken_by old) other addr
  pub fetches : (block : BlockNo) → is_fetching new block ≡ is_fetching old block
  pub memory : BringsNothing old new
  pub stays : (other : ℕ) → (tx ≡ Some other → ⊥) → PreservesReads old new other
  pub home : PreservesHome old new

-- What a worker had begun was given back: its transaction has ended, what that had taken is free, and its
-- fetch is pending no more. What others have taken or fetch stays, and so do the log, the counts and the kept
-- commits.
pub record GivesAllBack (begun : Begun) (old new : CoreState) : Type 0 where
  pub only : new ≡ record old { out = but_out begun.tx old.out; holds = new.holds; present = new.present }
  pub holds : (other : ℕ) (addr : Addr) → taken_by new other addr ≡ but_of begun.tx (taken_by old) other addr
  pub fetches : (block : BlockNo) → is_fetching new block ≡ without_io begun.io (is_fetching old) block
  pub memory : BringsNothing old new
  pub stays : (other : ℕ) → (begun.tx ≡ Some other → ⊥) → PreservesReads old new other
  pub home : PreservesHome old new
