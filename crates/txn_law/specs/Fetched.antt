-- What a fetch that was given back leaves, with what was read or without.
use Rattle.std.specs.Prelude.{Bool}
use Rattle.disk.specs.Device.{Content}
use Rattle.disk.specs.declared.block.BlockNo.{BlockNo}
use Rattle.objects.specs.Present.{filled, without_pending}
use Rattle.objects.specs.declared.present.Present.{Present}
use Rattle.txn_law.specs.Core.{CoreState}
use Rattle.txn_law.specs.Records.{swept}

abbrev pub fetched : (Present → Bool) → CoreState → BlockNo → Content → CoreState
fetched spare core block content =
    record core { present = swept spare core.holds core.records (filled core.present block content) }

abbrev pub fetch_failed : CoreState → BlockNo → CoreState
fetch_failed core block =
    record core { present = without_pending core.present block }
