use Rattle.image_read.proofs.LawsLemmas.WholeBack.{whole_of}
use Rattle.image_read.proofs.image_laws.whole_image.an_image_of_a_tree_is_whole.Goals as goal

pub returns : goal.returns
returns c = whole_of
