-- What a side has taken, and the step of each of its calls.
use Rattle.std.specs.Prelude.{ℕ, ◌+◌, ◌<◌}
use Rattle.disk.specs.declared.block.Side.{Side}
use Rattle.disk.specs.declared.block.Side.TheVariants.{Log as LogSide, Home}
use Rattle.wal.specs.declared.memory.batch.Batch.{Batch}
use Rattle.wal.specs.declared.memory.batch.Batches.{Batches}
use Rattle.wal.specs.declared.memory.batch.Stage.{Stage}
use Rattle.wal.specs.declared.memory.batch.Stage.TheVariants.{Body, BodyBarrier, Header, HeaderBarrier}

-- how many calls of a batch of so many changes come before a stage
abbrev pub step_at : ℕ → Stage → ℕ
step_at taken (Body number) = number
step_at taken BodyBarrier = taken
step_at taken Header = taken + 1
step_at taken HeaderBarrier = taken + 2

-- it is one of such a batch
abbrev pub IsStageOf : ℕ → Stage → Type 0
IsStageOf taken (Body number) = number < taken
IsStageOf taken BodyBarrier = Unit {0}
IsStageOf taken Header = Unit {0}
IsStageOf taken HeaderBarrier = Unit {0}

-- what a side has taken
abbrev pub batch_of : Side → Batches → Batch
batch_of LogSide batches = batches.log
batch_of Home batches = batches.home

-- a side has this
abbrev pub with_batch : Side → Batches → Batch → Batches
with_batch LogSide batches batch = record batches { log = batch }
with_batch Home batches batch = record batches { home = batch }
