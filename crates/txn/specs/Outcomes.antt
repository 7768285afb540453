-- What the core's answers say.
use Rattle.std.specs.Prelude.{◌≡◌, ℕ, ◌+◌, ◌<◌, ◌^◌, true, false, List, All, length}
use Rattle.base.specs.declared.TheConstants.{BLOCK_BYTES}
use Rattle.disk.specs.Device.{Content}
use Rattle.disk.specs.declared.block.BlockNo.{BlockNo}
use Rattle.objects.specs.declared.addr.Addr.{Addr}
use Rattle.objects.specs.declared.mode.Mode.{Mode}
use Rattle.objects.specs.declared.mode.Mode.TheVariants as modes
use Rattle.circ.specs.Log.Log.{newest, blocks_of as group_blocks}
use Rattle.circ.specs.Log.Room.{IsRoom}
use Rattle.circ.specs.Log.Calls.{PreservesAgreement}
use Rattle.circ.specs.Log.Effects.{HasAppended}
use Rattle.circ.specs.Log.Grows.{GrowsBy, StandsStill}
use Rattle.circ.specs.declared.log.outcomes.Room.{Room}
use Rattle.circ.specs.declared.log.outcomes.Room.TheVariants as room
use Rattle.txn_law.specs.Commit.{Planned, IsOwn, with_record, refreshed_content}
use Rattle.txn_law.specs.Core.{CoreState, with_refused, without}
use Rattle.txn_law.specs.CoreWindow.{SetsOnly}
use Rattle.txn_law.specs.Fetch.{Fetch}
use Rattle.txn_law.specs.Group.{blocks_of, IsOverlaid}
use Rattle.txn_law.specs.Leaves.{Leaves, taken_by, is_fetching, in_memory, but_by}
use Rattle.txn_law.specs.LockAnswers.{IsOpen, IsOutside, IsBusy, IsLoading, IsHeld, IsFetched, IsTaken}
use Rattle.txn.specs.declared.outcomes.BeginFault.{BeginFault}
use Rattle.txn.specs.declared.outcomes.BeginFault.TheVariants as begin_fault
use Rattle.txn.specs.declared.outcomes.Want.{Want}
use Rattle.txn.specs.declared.outcomes.Want.TheVariants as want
use Rattle.txn.specs.declared.outcomes.Claim.{Claim}
use Rattle.txn.specs.declared.outcomes.Claim.TheVariants as claim
use Rattle.txn.specs.declared.outcomes.Commit.{Commit}
use Rattle.txn.specs.declared.outcomes.Commit.TheVariants as commit

-- why no transaction was begun
abbrev pub IsNoBeginning : BeginFault → CoreState → Type 0
IsNoBeginning begin_fault.Broken core = core.log.broken ≡ true
IsNoBeginning begin_fault.Spent core = (core.log.broken ≡ false) × (core.begun + 1 ≡ 2 ^ 64)
IsNoBeginning (begin_fault.NoMemory error) core = (core.log.broken ≡ false) × (core.begun + 1 < 2 ^ 64)

-- what that leaves: memory that was refused is counted
abbrev pub unbegun : BeginFault → CoreState → CoreState
unbegun begin_fault.Broken core = core
unbegun begin_fault.Spent core = core
unbegun (begin_fault.NoMemory error) core = with_refused core

-- What came of a lock request to read an object, by what is left where it is held and where it is to be fetched: the
-- transaction comes back, and each refusal has its cause and changes nothing, but that memory that was refused is
-- counted.
abbrev pub IsWantedWith : (List ℕ → Type 0) → (Fetch → Type 0) → CoreState → ℕ → Addr → Mode → Want → CoreState
    → Type 0
IsWantedWith held fetch old tx addr mode (want.Held back bytes) new = (back ≡ tx) × IsOpen old tx addr mode
    × held bytes
IsWantedWith held fetch old tx addr mode (want.Busy back) new = (back ≡ tx) × IsBusy old tx addr mode
    × (new ≡ old)
IsWantedWith held fetch old tx addr mode (want.Fetch back io) new = (back ≡ tx) × IsOpen old tx addr mode
    × fetch io
IsWantedWith held fetch old tx addr mode (want.Loading back) new = (back ≡ tx) × IsLoading old tx addr mode
    × (new ≡ old)
IsWantedWith held fetch old tx addr mode (want.Outside back) new = (back ≡ tx) × IsOutside old tx addr
    × (new ≡ old)
IsWantedWith held fetch old tx addr mode (want.NoMemory back error) new = (back ≡ tx) × IsOpen old tx addr mode
    × (new ≡ with_refused old)

abbrev pub IsWanted : CoreState → ℕ → Addr → Mode → Want → CoreState → Type 0
IsWanted old tx addr mode answer new =
    IsWantedWith (λ bytes. IsHeld old tx addr mode bytes new) (λ io. IsFetched old tx addr mode io new)
    old tx addr mode answer new

-- the request was met, or there was no memory for it
abbrev pub IsMet : Want → Type 0
IsMet (want.Held back bytes) = Unit {0}
IsMet (want.NoMemory back error) = Unit {0}
IsMet (want.Busy back) = ⊥
IsMet (want.Fetch back io) = ⊥
IsMet (want.Loading back) = ⊥
IsMet (want.Outside back) = ⊥

-- the bytes are as many as asked for, and what is to be fetched is a block of the image
abbrev pub IsWithin : ℕ → ℕ → Want → Type 0
IsWithin blocks len (want.Held back bytes) = length bytes ≡ len
IsWithin blocks len (want.Fetch back io) = io.block.0 < blocks
IsWithin blocks len (want.Busy back) = Unit {0}
IsWithin blocks len (want.Loading back) = Unit {0}
IsWithin blocks len (want.Outside back) = Unit {0}
IsWithin blocks len (want.NoMemory back error) = Unit {0}

-- what came of a lock request to write a whole block, alone, by what is left where it is held: as of a lock request to read
-- it, but that nothing is fetched
abbrev pub IsClaimedWith : Type 0 → CoreState → ℕ → Addr → Claim → CoreState → Type 0
IsClaimedWith held old tx addr (claim.Held back) new = (back ≡ tx) × IsOpen old tx addr modes.Exclusive × held
IsClaimedWith held old tx addr (claim.Busy back) new = (back ≡ tx) × IsBusy old tx addr modes.Exclusive
    × (new ≡ old)
IsClaimedWith held old tx addr (claim.Loading back) new = (back ≡ tx) × IsLoading old tx addr modes.Exclusive
    × (new ≡ old)
IsClaimedWith held old tx addr (claim.Outside back) new = (back ≡ tx) × IsOutside old tx addr × (new ≡ old)
IsClaimedWith held old tx addr (claim.NoMemory back error) new = (back ≡ tx) × IsOpen old tx addr modes.Exclusive
    × (new ≡ with_refused old)

abbrev pub IsClaimed : CoreState → ℕ → Addr → Claim → CoreState → Type 0
IsClaimed old tx addr answer new = IsClaimedWith (IsTaken old tx addr new) old tx addr answer new

-- a change that finds this room in a log that isn't broken
pub record IsTried (core : CoreState) (tx : ℕ) (plan : Planned) (found : Room) : Type 0 where
  pub sound : core.log.broken ≡ false
  pub own : IsOwn core tx plan
  pub log_space : IsRoom core.log (blocks_of plan.written) found

-- a commit brought the log a group: each block that the change writes, once, with its objects laid over its
-- current content
pub record BringsGroup (old : CoreState) (plan : Planned) (new : CoreState) : Type 0 where
  pub group : List (BlockNo × Content)
  pub blocks : group_blocks group ≡ blocks_of plan.written
  pub contents : All (IsOverlaid old.present old.log plan.written) group
  pub whole : All (λ change. length change.1 ≡ BLOCK_BYTES) group
  pub sizes : All (λ object. length object.bytes ≡ object.addr.len) plan.written
  pub seen : HasAppended old.log group new.log
  pub grown : GrowsBy old.log group new.log

-- A commit took the next place, brought the log its group, was recorded, and ended its transaction. What is in
-- memory has what the log has. How the tail has the group isn't said: it may keep one change of each block.
pub record TakesPlace (old : CoreState) (tx : ℕ) (plan : Planned) (place : ℕ) (new : CoreState) : Type 0 where
  pub tried : IsTried old tx plan room.Fits
  pub next : place ≡ old.log.places + 1
  pub group : BringsGroup old plan new
  pub places : new.log.places ≡ old.log.places + 1
  pub still : StandsStill old.log new.log
  pub only : new ≡ record old {
    log = new.log;
    out = without tx old.out;
    holds = new.holds;
    present = new.present;
    records = with_record new.log new.log.places plan old.records;
  }
  pub leaves : Leaves new (but_by tx (taken_by old)) (is_fetching old)
      (λ block. refreshed_content (in_memory old block) (newest new.log block.0))
  pub law : PreservesAgreement old.log new.log

-- a commit was refused, which leaves this core: the transaction and its change come back
pub record IsRefused {C : Type 0} (left : CoreState) (tx : ℕ) (change : C) (back : ℕ) (same : C)
    (new : CoreState) : Type 0 where
  pub core : new ≡ left
  pub transaction : back ≡ tx
  pub change_back : same ≡ change

-- What came of a commit, by what is left where it took a place. A refusal changes nothing, but that memory that was
-- refused is counted.
abbrev pub IsCommitWith : {C : Type 0} → (ℕ → Type 0) → CoreState → ℕ → Planned → C → Commit C
    → CoreState → Type 0
IsCommitWith taken old tx plan change (commit.Committed receipt) new = taken receipt.place.0
IsCommitWith taken old tx plan change (commit.Full back same) new = IsRefused old tx change back same new
    × IsTried old tx plan room.Full
IsCommitWith taken old tx plan change (commit.Foreign back same) new = IsRefused old tx change back same new
    × (old.log.broken ≡ false) × (IsOwn old tx plan → ⊥)
IsCommitWith taken old tx plan change (commit.NoMemory back same error) new =
    IsRefused (with_refused old) tx change back same new × IsTried old tx plan room.Fits
IsCommitWith taken old tx plan change (commit.Broken back same) new = IsRefused old tx change back same new
    × (old.log.broken ≡ true)
IsCommitWith taken old tx plan change (commit.Spent back same) new = IsRefused old tx change back same new
    × IsTried old tx plan room.Spent

abbrev pub IsCommit : {C : Type 0} → CoreState → ℕ → Planned → C → Commit C → CoreState → Type 0
IsCommit old tx plan change answer new =
    IsCommitWith (λ place. TakesPlace old tx plan place new) old tx plan change answer new

-- the receipt of a commit has the change that was committed
abbrev pub IsGiven : {C : Type 0} → C → Commit C → Type 0
IsGiven change (commit.Committed receipt) = receipt.change ≡ change
IsGiven change (commit.Full back same) = Unit {0}
IsGiven change (commit.Foreign back same) = Unit {0}
IsGiven change (commit.NoMemory back same error) = Unit {0}
IsGiven change (commit.Broken back same) = Unit {0}
IsGiven change (commit.Spent back same) = Unit {0}

-- what is current after a commit is what was, with what it writes laid over it
abbrev pub IsSetBy : {C : Type 0} → CoreState → Planned → Commit C → CoreState → Type 0
IsSetBy old plan (commit.Committed receipt) new = SetsOnly old plan.written new
IsSetBy old plan (commit.Full back same) new = Unit {0}
IsSetBy old plan (commit.Foreign back same) new = Unit {0}
IsSetBy old plan (commit.NoMemory back same error) new = Unit {0}
IsSetBy old plan (commit.Broken back same) new = Unit {0}
IsSetBy old plan (commit.Spent back same) new = Unit {0}
