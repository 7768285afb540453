-- Which fetches are pending.
use Rattle.std.specs.Prelude.{◌≡◌, Bool, false, nat_eq, Option, Some, None}
use Rattle.disk.specs.declared.block.BlockNo.{BlockNo}
use Rattle.txn.specs.Core.{CoreState}
use Rattle.txn.specs.Fetch.{Fetch}
use Rattle.txn.specs.Leaves.{is_fetching}

-- whether this fetch is one of the block
abbrev pub is_fetch_of : Option Fetch → BlockNo → Bool
is_fetch_of None block = false
is_fetch_of (Some io) block = nat_eq block.0 io.block.0

-- no fetch but this one is pending
abbrev pub FetchesOnly : Option Fetch → CoreState → Type 0
FetchesOnly io core = (block : BlockNo) → is_fetching core block ≡ is_fetch_of io block

-- the fetches that are pending stay
abbrev pub PreservesFetches : CoreState → CoreState → Type 0
PreservesFetches old new = (block : BlockNo) → is_fetching new block ≡ is_fetching old block
