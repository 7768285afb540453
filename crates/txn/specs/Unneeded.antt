-- The blocks in memory that nobody needs.
use Rattle.std.specs.Prelude.{List, not}
use Rattle.std.specs.List.{filter}
use Rattle.objects.specs.declared.present.Present.{Present}
use Rattle.txn_law.specs.Core.{CoreState}
use Rattle.txn_law.specs.Records.{is_needed}

-- the blocks whose content is there, of which nobody has taken a part, and which no kept commit read
abbrev pub unneeded : CoreState → List Present
unneeded core = filter (λ resident. not (is_needed core.holds core.records resident)) core.present
