-- The window of a core.
use Rattle.std.specs.Prelude.{◌≡◌, ℕ, ◌<◌, Option, Some, None, List, [], ◌∷◌, length, true}
use Rattle.base.specs.declared.TheConstants.{BLOCK_BYTES}
use Rattle.disk.specs.Device.{Content}
use Rattle.disk.specs.Crash.{Image}
use Rattle.disk.specs.declared.block.BlockNo.{BlockNo}
use Rattle.txn_law.specs.Commit.{IsReadBy}
use Rattle.txn_law.specs.Core.{CoreState}
use Rattle.objects.specs.Object.{ObjectBytes}
use Rattle.objects.specs.Present.{present_of, is_pending}
use Rattle.objects.specs.declared.present.Present.{Present}
use Rattle.txn_law.specs.Window.{IsWindowOver, now_of, with_objects}

-- a block in memory, where its content is there
abbrev pub with_resident : BlockNo → Option Content → List (ℕ × Content) → List (ℕ × Content)
with_resident block None later = later
with_resident block (Some content) later = (block.0, content) ∷ later

-- the blocks in memory
abbrev pub held_of : List Present → List (ℕ × Content)
held_of [] = []
held_of (resident ∷ later) = with_resident resident.block resident.content (held_of later)

abbrev pub IsCoreWindow : Image → CoreState → Type 0
IsCoreWindow base core = IsWindowOver base core.log core.records (held_of core.present)

-- each block of a disk of so many has its bytes
abbrev pub AreBlocks : ℕ → Image → Type 0
AreBlocks blocks image = (block : ℕ) → block < blocks → length (image block) ≡ BLOCK_BYTES

-- These blocks may be what is at home: they are whole, and the core's commits follow from them.
pub record IsHomeOf (base : Image) (core : CoreState) : Type 0 where
  pub whole : AreBlocks core.log.blocks base
  pub window : IsCoreWindow base core

-- a fetch of the block is pending
abbrev pub IsPending : CoreState → BlockNo → Type 0
IsPending core block = is_pending (present_of core.present block) ≡ true

-- what is current after a step is what was, with these objects laid over it
abbrev pub SetsOnly : CoreState → List ObjectBytes → CoreState → Type 0
SetsOnly old written new = (base : Image) → IsHomeOf base old → (block : ℕ)
    → now_of base new.log new.records block
    ≡ with_objects (now_of base old.log old.records) written block

-- whatever is at home, a step leads from a window over it to one over the same
abbrev pub PreservesHome : CoreState → CoreState → Type 0
PreservesHome old new = (base : Image) → IsHomeOf base old → IsHomeOf base new

-- what a transaction holds for reading stays, with its bytes
abbrev pub PreservesReads : CoreState → CoreState → ℕ → Type 0
PreservesReads old new tx = (object : ObjectBytes) → IsReadBy old tx object → IsReadBy new tx object
