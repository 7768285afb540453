use Rattle.image_contents.proofs.FoundLemmas.Linked.{are_linked}
use Rattle.image_contents.proofs.found.links.what_is_whole_is_linked.Goals as goal

pub returns : goal.returns
returns c = λ g blocks table links bytes counted whole. are_linked g blocks table links bytes counted whole
