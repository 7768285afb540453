-- What a side has taken, lent to be changed.
use Rattle.std.specs.Borrow.{Lends, MutBor, Fml}
use Rattle.disk.specs.declared.block.Side.{Side}
use Rattle.wal.specs.declared.memory.batch.Batch.{Batch}
use Rattle.wal.specs.declared.memory.batch.Batches.{Batches}
use Rattle.wal.specs.contracts.memory.batch.Batch.{the_row as batch_row}
use Rattle.wal.specs.contracts.memory.batch.Batches.{the_row}
use Rattle.wal.specs.Batch.{with_batch}

abbrev pub LendsBatch : Side → MutBor Batches → MutBor Batch → Fml
LendsBatch role batches batch = Lends the_row batch_row batches batch (with_batch role batches.now)
