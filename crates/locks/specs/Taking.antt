-- What comes of a lock request, and what it leaves.
use Rattle.std.specs.Prelude.{◌≡◌, List}
use Rattle.txn_law.specs.Holds.{IsFree, with_hold}
use Rattle.txn_law.specs.declared.hold.Hold.{Hold}
use Rattle.locks.specs.declared.table.Take.{Take}
use Rattle.locks.specs.declared.table.Take.TheVariants as take

-- nothing keeps off what the request is for
abbrev pub IsFreeFor : List Hold → Hold → Type 0
IsFreeFor holds hold = IsFree holds hold.transaction hold.addr hold.mode

-- It is held just where it was free and there was room. Busy is told exactly where it isn't free, and a refusal
-- changes nothing.
abbrev pub IsTaking : List Hold → Hold → Take → List Hold → Type 0
IsTaking old hold take.Held new = IsFreeFor old hold × (new ≡ with_hold old hold)
IsTaking old hold take.Busy new = (IsFreeFor old hold → ⊥) × (new ≡ old)
IsTaking old hold (take.NoMemory error) new = IsFreeFor old hold × (new ≡ old)
