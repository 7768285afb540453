use Rattle.layout.proofs.NewestVersion.{stands_alike}
use Rattle.layout.proofs.fresh.an_image_is_read_alike_in_the_newest_version.Goals as goal

pub returns : goal.returns
returns c = stands_alike
