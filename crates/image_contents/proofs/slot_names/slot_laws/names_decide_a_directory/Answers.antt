use Rattle.image_contents.proofs.NamesLemmas.Directory.{are_names, has_names, once}
use Rattle.image_contents.proofs.slot_names.slot_laws.names_decide_a_directory.Goals as goal

pub returns-clause-once : goal.returns-clause-once
returns-clause-once c = once

pub returns-clause-sound : goal.returns-clause-sound
returns-clause-sound c = has_names

pub returns-clause-names : goal.returns-clause-names
returns-clause-names c = are_names
