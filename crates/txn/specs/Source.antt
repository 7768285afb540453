-- What a look for an object finds.
use Rattle.std.specs.Prelude.{◌≡◌, ℕ, length}
use Rattle.objects.specs.declared.addr.Addr.{Addr}
use Rattle.objects.specs.declared.mode.Mode.{Mode}
use Rattle.txn_law.specs.Lists.{IsHeldExactly, IsFetchedExactly}
use Rattle.txn_law.specs.Core.{CoreState}
use Rattle.txn.specs.declared.want.Source.{Source}
use Rattle.txn.specs.declared.want.Source.TheVariants as found

-- the object's current bytes, or a fetch of its block, which is nowhere in memory
abbrev pub IsSource : CoreState → ℕ → Addr → Mode → Source → CoreState → Type 0
IsSource old tx addr mode (found.Bytes bytes) new = IsHeldExactly old tx addr mode bytes new
IsSource old tx addr mode (found.Fetch io) new = IsFetchedExactly old tx addr mode io new

-- the bytes are as many as asked for
abbrev pub IsSourceWithin : ℕ → Source → Type 0
IsSourceWithin len (found.Bytes bytes) = length bytes ≡ len
IsSourceWithin len (found.Fetch io) = Unit {0}
