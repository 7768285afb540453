use Rattle.store_law.specs.Lives.Life.{counted_runs}
use Rattle.store_law.proofs.lives.handle_laws.a_handle_names_one_file_for_good.Goals as goal

pub returns : goal.returns
returns c life handle at place later behind one other births others found again is has too names names_too =
    c.a_handle_names_one_file_for_good.ensures (counted_runs life) handle at place later behind one other births
    others found again (c.a_life_counts_up_to_each_crash.ensures life is) has too names names_too
