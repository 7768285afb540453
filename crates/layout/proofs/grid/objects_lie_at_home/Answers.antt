use Rattle.layout.proofs.OnGrid.{at_home}
use Rattle.layout.proofs.grid.objects_lie_at_home.Goals as goal

pub returns : goal.returns
returns c = at_home
