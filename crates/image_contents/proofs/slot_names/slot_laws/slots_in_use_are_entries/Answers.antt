use Rattle.image_contents.proofs.NamesLemmas.Entries.{names, numbers}
use Rattle.image_contents.proofs.slot_names.slot_laws.slots_in_use_are_entries.Goals as goal

pub returns-clause-names : goal.returns-clause-names
returns-clause-names c = names

pub returns-clause-numbers : goal.returns-clause-numbers
returns-clause-numbers c = numbers
