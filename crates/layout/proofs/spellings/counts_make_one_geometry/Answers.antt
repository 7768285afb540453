use Rattle.layout.proofs.OneGeometry.{one_geometry}
use Rattle.layout.proofs.spellings.counts_make_one_geometry.Goals as goal

pub returns : goal.returns
returns c = one_geometry
