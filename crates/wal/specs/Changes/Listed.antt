-- Changes as the contracts see them.
use Rattle.std.specs.Prelude.{ℕ, List}
use Rattle.circ.specs.declared.log.change.LogChange.{LogChange}

pub record Listed : Type 0 where
  -- the count of the disk's blocks
  pub blocks : ℕ
  -- the log position of the first change
  pub start : ℕ
  -- oldest first
  pub changes : List LogChange
