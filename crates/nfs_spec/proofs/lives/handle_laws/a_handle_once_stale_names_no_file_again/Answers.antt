use Rattle.nfs_spec.proofs.LivesLemmas.Since.{stays_stale}
use Rattle.nfs_spec.proofs.lives.handle_laws.a_handle_once_stale_names_no_file_again.Goals as goal

pub returns : goal.returns
returns c life handle at place later behind last end named stale next births others ends found is has names has_too
    up gone leads =
    stays_stale life handle at place later behind last end named stale next births others ends found is has names
    has_too up gone leads
