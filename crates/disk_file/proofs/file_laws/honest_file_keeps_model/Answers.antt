use Rattle.disk_file.proofs.StoredLemmas.{honest_preserves}
use Rattle.disk_file.proofs.file_laws.honest_file_keeps_model.Goals as goal

pub returns : goal.returns
returns c first size calls blocks honest = honest_preserves first size calls blocks honest
