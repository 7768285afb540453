-- The disk model: the contents that each block may have, at each count of calls, and what a call of the
-- device does to them.
use Rattle.std.specs.Prelude.{◌≡◌, ◌≢◌, ℕ, ◌+◌, ◌-◌, ◌<◌, ◌≤◌, Bool, false, ◌||◌, ◌&&◌, if◌then◌else◌}
use Rattle.std.specs.Prelude.{nat_lt, nat_le}
use Rattle.std.specs.Prelude.{nat_eq, List, [], ◌∷◌, ◌++◌, length, drop, slice_index_or, Result, Ok, Err}
use Rattle.std.specs.Prelude.{is_err, ◌⊎◌}
use Rattle.base.specs.declared.TheConstants.{LOG_HEADER_BLOCK, START_BLOCK}
use Rattle.disk.specs.declared.block.Side.{Side}
use Rattle.disk.specs.declared.block.Side.TheVariants.{Log, Home}
use Rattle.disk.specs.declared.device.Failed.{Failed}

-- the bytes of a block
abbrev pub Content : Type 0
Content = List ℕ

-- A device and its past. The clock is the count of the calls made so far.
pub record Device : Type 0 where
  -- the count of its blocks
  pub size : ℕ
  -- the count of the calls made so far
  pub clock : ℕ
  -- the count of those that failed
  pub failures : ℕ
  -- whether the call of this number failed, from 0
  pub failed : ℕ → Bool
  -- whether it was a write or a barrier, and failed
  pub lost : ℕ → Bool
  -- at a clock, for a block: the contents that a crash may leave, the newest last
  pub contents : ℕ → ℕ → List Content
  -- a write of the block has failed
  pub uncertain : ℕ → Bool

-- the contents that a crash now may leave
abbrev pub current : Device → ℕ → List Content
current d block = d.contents d.clock block

-- the last of a list of contents
abbrev pub newest : List Content → Content
newest contents = slice_index_or contents (length contents - 1) []

-- the last of a list of contents, alone
abbrev pub newest_only : List Content → List Content
newest_only contents = drop (length contents - 1) contents

-- blocks 1 to 512 are on the log side, block 0 and those from 513 on are on the home side
abbrev pub side_of : ℕ → Side
side_of block = if nat_le LOG_HEADER_BLOCK block && nat_lt block START_BLOCK then Log else Home

-- whether a block lies on a side
abbrev pub is_on : Side → ℕ → Bool
is_on Log block = nat_le LOG_HEADER_BLOCK block && nat_lt block START_BLOCK
is_on Home block = nat_lt block LOG_HEADER_BLOCK || nat_le START_BLOCK block

-- one call later: the past is what it was, and the call is counted where it failed
pub record OneLater (old new : Device) : Type 0 where
  pub size : new.size ≡ old.size
  pub clock : new.clock ≡ old.clock + 1
  pub past : (clock block : ℕ) → clock ≤ old.clock → new.contents clock block ≡ old.contents clock block
  pub failed : (call : ℕ) → call < old.clock → new.failed call ≡ old.failed call
  pub lost : (call : ℕ) → call < old.clock → new.lost call ≡ old.lost call
  pub counted : new.failures ≡ old.failures + (if new.failed old.clock then 1 else 0)

-- a call counts a failure just where it answers that it failed
abbrev pub CountsFailure : Device → Device → Result Unit Failed → Type 0
CountsFailure old new (Ok _) = new.failures ≡ old.failures
CountsFailure old new (Err _) = new.failures ≡ old.failures + 1

-- after a read, made or failed: no block has changed
pub record HasRead (old new : Device) : Type 0 where
  pub later : OneLater old new
  pub lost : new.lost old.clock ≡ false
  pub contents : (block : ℕ) → current new block ≡ current old block
  pub uncertain : (block : ℕ) → new.uncertain block ≡ old.uncertain block

-- what a write does to the contents of its block: a failed one may have been made or not
abbrev pub Appends : List Content → Content → Result Unit Failed → List Content → Type 0
Appends old content (Ok _) new = new ≡ old ++ content ∷ []
Appends old content (Err _) new = (new ≡ old) ⊎ (new ≡ old ++ content ∷ [])

-- after a write, made or failed: no other block has changed
pub record HasWritten (old : Device) (block : ℕ) (content : Content) (result : Result Unit Failed)
    (new : Device) : Type 0 where
  pub later : OneLater old new
  pub lost : new.lost old.clock ≡ is_err result
  pub written : Appends (current old block) content result (current new block)
  pub others : (other : ℕ) → other ≢ block → current new other ≡ current old other
  pub uncertain : (other : ℕ) → new.uncertain other ≡ (old.uncertain other || (is_err result && nat_eq other block))

-- what a barrier does to the contents of a block: a failed one does nothing
abbrev pub Settles : Side → ℕ → List Content → Result Unit Failed → List Content → Type 0
Settles side block old (Ok _) new = new ≡ (if is_on side block then newest_only old else old)
Settles side block old (Err _) new = new ≡ old

-- after a barrier, made or failed
pub record HasSettled (old : Device) (side : Side) (result : Result Unit Failed) (new : Device) : Type 0 where
  pub later : OneLater old new
  pub lost : new.lost old.clock ≡ is_err result
  pub contents : (block : ℕ) → Settles side block (current old block) result (current new block)
  pub uncertain : (block : ℕ) → new.uncertain block ≡ old.uncertain block
