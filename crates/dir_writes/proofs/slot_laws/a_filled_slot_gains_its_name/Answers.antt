use Rattle.dir_writes.proofs.FilledNames.{filled}
use Rattle.dir_writes.proofs.slot_laws.a_filled_slot_gains_its_name.Goals as goal

pub returns : goal.returns
returns c = filled
