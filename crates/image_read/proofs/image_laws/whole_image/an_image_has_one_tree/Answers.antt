use Rattle.image_read.proofs.LawsLemmas.Made.{made_has, one_made}
use Rattle.image_read.proofs.image_laws.whole_image.an_image_has_one_tree.Goals as goal

pub returns : goal.returns
returns c = record { made = made_has; one = one_made }
