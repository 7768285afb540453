use Rattle.nfs_spec.proofs.LivesLemmas.Born.{names_one}
use Rattle.nfs_spec.proofs.lives.handle_laws.a_handle_names_one_file_for_good.Goals as goal

pub returns : goal.returns
returns c life handle at place later behind one other births others found again is has too names again_names =
    names_one life handle at place later behind one other births others found again is has too names again_names
