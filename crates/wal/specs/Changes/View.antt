-- What the fields stand for.
use Rattle.std.specs.Prelude.{◌≡◌, ◌+◌, ◌<◌, ◌^◌, length}
use Rattle.wal.specs.declared.changes.changes.Changes.TheInside.{Inside}
use Rattle.wal.specs.Changes.Index.{IsIndex, numbers}
use Rattle.wal.specs.Changes.Listed.{Listed}

abbrev pub listed : Inside → Listed
listed w = record { blocks = w.blocks; start = w.index.start; changes = w.list.items }

pub record IsSound (w : Inside) : Type 0 where
  pub table : length w.index.newest.items ≡ w.blocks
  pub positions : w.index.start + length w.list.items < 2 ^ 64
  pub index : IsIndex w.index.start (numbers w.list.items) w.index.newest.items w.index.behind.items
