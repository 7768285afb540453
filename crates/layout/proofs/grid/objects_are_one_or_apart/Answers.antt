use Rattle.layout.proofs.OnGrid.{one_or_apart}
use Rattle.layout.proofs.grid.objects_are_one_or_apart.Goals as goal

pub returns : goal.returns
returns c = one_or_apart
