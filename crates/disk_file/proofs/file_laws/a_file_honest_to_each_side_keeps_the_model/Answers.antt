use Rattle.disk_file.specs.Sides.{file_calls}
use Rattle.disk_file.proofs.SideLemmas.{honest}
use Rattle.disk_file.proofs.StoredLemmas.{honest_preserves}
use Rattle.disk_file.proofs.file_laws.a_file_honest_to_each_side_keeps_the_model.Goals as goal

pub returns-clause-honest : goal.returns-clause-honest
returns-clause-honest c first size log home calls to_log to_home come =
    honest first size log home calls to_log to_home come

pub returns-clause-model : goal.returns-clause-model
returns-clause-model c first size log home calls blocks to_log to_home come =
    honest_preserves first size (file_calls calls) blocks (honest first size log home calls to_log to_home come)
