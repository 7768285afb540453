use Rattle.image_read.proofs.LawsLemmas.NamedInImage.{names_in_image}
use Rattle.image_read.proofs.image_laws.whole_image.names_are_those_of_slots.Goals as goal

pub returns : goal.returns
returns c = names_in_image
