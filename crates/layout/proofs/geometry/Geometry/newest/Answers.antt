use Rattle.std.proofs.Common.{refl}
use Rattle.layout.specs.Newest.{newest}
use Rattle.layout.proofs.OneGeometry.{one_geometry}
use Rattle.layout.proofs.geometry.Geometry.newest.Goals as goal

pub returns-clause-is : goal.returns-clause-is
returns-clause-is c = one_geometry _ (newest c.args.self.now) refl refl refl
