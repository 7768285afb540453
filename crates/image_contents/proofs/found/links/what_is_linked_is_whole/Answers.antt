use Rattle.image_contents.proofs.FoundLemmas.Whole.{is_whole}
use Rattle.image_contents.proofs.found.links.what_is_linked_is_whole.Goals as goal

pub returns : goal.returns
returns c = λ g blocks table links bytes each names counted linked.
    is_whole g blocks table links bytes each names counted linked
