-- Which indexes a file may have.
use Rattle.std.specs.Prelude.{◌≡◌, ℕ, ◌<◌, true}
use Rattle.std.specs.FinSet.{FinSet, contains}
use Rattle.std.specs.Ordering.{nat_cmp}
use Rattle.base.specs.declared.TheConstants.{FILE_INDEXES}

abbrev pub AreIndexes : FinSet nat_cmp → Type 0
AreIndexes indexes = (index : ℕ) → contains indexes index ≡ true → index < FILE_INDEXES
