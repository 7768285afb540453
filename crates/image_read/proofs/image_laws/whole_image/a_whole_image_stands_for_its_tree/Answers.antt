use Rattle.image_read.proofs.LawsLemmas.Whole.{stands_whole}
use Rattle.image_read.proofs.image_laws.whole_image.a_whole_image_stands_for_its_tree.Goals as goal

pub returns : goal.returns
returns c = stands_whole
