use Rattle.store_law.proofs.LivesLemmas.Counted.{counted_there}
use Rattle.store_law.specs.Lives.Life.{counted, counted_runs}
use Rattle.store_law.proofs.lives.handle_laws.each_tree_has_its_births.Goals as goal

pub returns : goal.returns
returns c life at place run tree is there few transition =
    c.each_tree_has_its_births.ensures (counted_runs life) at place (counted run) tree
    (c.a_life_counts_up_to_each_crash.ensures life is) (counted_there life at run there) few transition
