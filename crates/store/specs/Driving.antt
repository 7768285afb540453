-- What is left to do for a call that one thread drives: a number that each round makes smaller.
use Rattle.std.specs.Prelude.{◌≡◌, ℕ, ◌+◌, ◌-◌, ◌*◌, ◌<◌, ◌≤◌, ◌⊎◌, Bool, true, false, ◌&&◌, ◌||◌}
use Rattle.std.specs.Prelude.{nat_le}
use Rattle.std.specs.Prelude.{if◌then◌else◌, Option, Some, None, is_some, length, zero, suc}
use Rattle.base.specs.declared.TheConstants.{CHANGED_BLOCKS, LOG_SLOTS}
use Rattle.disk.specs.declared.block.BlockNo.{BlockNo}
use Rattle.circ.specs.Log.Log.{Log, settled_place, tail_count}
use Rattle.procs.specs.MostAsked.{most_asked, most_claimed, times_asked}
use Rattle.txn.specs.Core.{CoreState}
use Rattle.txn.specs.Leaves.{in_memory}
use Rattle.txn_law.specs.Holds.{is_taken}
use Rattle.store_promise.specs.declared.events.Committing.TheVariants as committing
use Rattle.store_promise.specs.declared.events.Step.{Step}
use Rattle.store_promise.specs.declared.events.Step.TheVariants as step
use Rattle.store_workers.specs.Seen.{Seen, seen_in}
use Rattle.store_workers.specs.declared.workers.parts.Phase.{Phase}
use Rattle.store_workers.specs.declared.workers.parts.Phase.TheVariants.{Idle, Called, Planning}
use Rattle.store_workers.specs.declared.workers.parts.Phase.TheVariants.{Reading, Read}
use Rattle.store_workers.specs.declared.workers.parts.Phase.TheVariants.{Refused, Again, Waiting}
use Rattle.store_workers.specs.declared.workers.parts.State.{State}
use Rattle.store_workers.specs.declared.workers.parts.Work.{Work}

-- ---- which blocks are at hand

-- somebody has taken a part of the block, and it is in memory
abbrev pub is_at_hand : CoreState → BlockNo → Bool
is_at_hand core block = is_taken core.holds block && is_some (in_memory core block)

-- how many of so many blocks aren't at hand
abbrev pub count_away : (BlockNo → Bool) → ℕ → ℕ
count_away at_hand zero = 0
count_away at_hand (suc number) = (if at_hand (record { 0 = number }) then 0 else 1) + count_away at_hand number

-- how many blocks of the image aren't
abbrev pub away : CoreState → ℕ
away core = count_away (is_at_hand core) core.log.blocks

-- ---- what a transaction has still to take

-- the most that is taken of an image of so many blocks: objects that are read, each at most twice, beside others and
-- then alone, and blocks that are claimed
unfoldable pub most_taken : ℕ → ℕ
most_taken blocks = 2 * most_asked blocks + most_claimed blocks

abbrev pub count_of : Option Seen → ℕ
count_of None = 0
count_of (Some seen) = times_asked seen.objects seen.exclusives + length seen.claims

-- how much more may be taken
abbrev pub untaken : Work → ℕ → ℕ
untaken work blocks = most_taken blocks - count_of (seen_in work.planner)

-- What is read or claimed leaves less to take, and each block that is fetched fewer that aren't at hand.
abbrev pub reads_left : Work → CoreState → ℕ
reads_left work core = untaken work core.log.blocks * (core.log.blocks + 1) + away core

-- ---- what is left of a call

-- more than a transaction takes, in an image of so many blocks
abbrev pub whole_round : ℕ → ℕ
whole_round blocks = most_taken blocks * (blocks + 1) + blocks + 4

-- The tail has room for what any call changes, or nothing is committed any more: no commit is refused for
-- want of room then.
abbrev pub has_log_space : Log → Bool
has_log_space log = log.broken || nat_le (tail_count log + CHANGED_BLOCKS) LOG_SLOTS

-- what comes behind this transaction: another one, where its commit may be refused for want of room
abbrev pub rounds_left : Log → ℕ
rounds_left log = if has_log_space log then 0 else whole_round log.blocks

abbrev pub left_in : Phase → Work → CoreState → ℕ
left_in Idle work core = 0
left_in Called work core = rounds_left core.log + whole_round core.log.blocks
left_in Again work core = rounds_left core.log + (whole_round core.log.blocks + 1)
left_in Planning work core = rounds_left core.log + (3 + reads_left work core)
left_in Reading work core = 0
left_in (Read ok) work core = 0
left_in (Refused why) work core = 1
left_in (Waiting place) work core =
    if core.log.broken || nat_le place.0 (settled_place core.log) then 1 else 2

abbrev pub steps_left : State → CoreState → ℕ
steps_left state core = left_in state.phase state.work core

-- ---- where a round begins and ends

-- the worker has a call, and neither is its answer there nor is a read due
abbrev pub IsUnder : Phase → CoreState → Type 0
IsUnder Idle core = ⊥
IsUnder Called core = Unit {0}
IsUnder Again core = Unit {0}
IsUnder Planning core = Unit {0}
IsUnder Reading core = ⊥
IsUnder (Read ok) core = ⊥
IsUnder (Refused why) core = Unit {0}
IsUnder (Waiting place) core = place.0 ≤ core.log.places

abbrev pub IsUnderWay : State → CoreState → Type 0
IsUnderWay state core = IsUnder state.phase core

-- the call is answered
pub record HasAnswer (state : State) : Type 0 where
  pub idle : state.phase ≡ Idle
  pub there : is_some state.work.answer ≡ true

-- it is still under way, and less is left
pub record IsNearer (most : ℕ) (state : State) (core : CoreState) : Type 0 where
  pub under_way : IsUnderWay state core
  pub less : steps_left state core < most

-- the call is answered, or less than so much is left of it
abbrev pub HasGoneOn : ℕ → State → CoreState → Type 0
HasGoneOn most state core = HasAnswer state ⊎ IsNearer most state core

-- ---- one step of it

-- it waits for the log: for room, or for its place to be settled
abbrev pub waits_for_log : Option Step → Bool
waits_for_log (Some (step.Commit added committing.Full)) = true
waits_for_log (Some (step.Stable place false)) = true
waits_for_log _ = false
