use Rattle.store_law.proofs.LivesLemmas.Counted.{left_known}
use Rattle.store_law.proofs.lives.handle_laws.each_image_has_its_births.Goals as goal

pub returns : goal.returns
returns c life at run image is there left =
    left_known life at run image is there left
    (λ place tree few transition. c.each_tree_has_its_births.ensures life at place run tree is there few transition)
