use Rattle.nfs_spec.proofs.LivesLemmas.Handles.{one_birth_each}
use Rattle.nfs_spec.proofs.lives.handle_laws.files_of_equal_handles_have_one_birth.Goals as goal

pub returns : goal.returns
returns c = one_birth_each c.a_files_handle_names_it.ensures
