use Rattle.image_read.proofs.LawsLemmas.OwnedFit.{there_is_space, used_are}
use Rattle.image_read.proofs.image_laws.whole_image.what_is_owned_is_used_and_fits.Goals as goal

pub returns : goal.returns
returns c = record { used = used_are; fits = there_is_space }
