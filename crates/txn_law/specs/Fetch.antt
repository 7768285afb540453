-- What a contract sees of a block that is being read.
use Rattle.disk.specs.Device.{Content}
use Rattle.disk.specs.declared.block.BlockNo.{BlockNo}

-- the block, and what its buffer holds
pub record Fetch : Type 0 where
  pub block : BlockNo
  pub content : Content
