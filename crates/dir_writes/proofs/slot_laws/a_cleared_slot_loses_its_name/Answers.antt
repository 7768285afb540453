use Rattle.dir_writes.proofs.ClearedNames.{names, rules}
use Rattle.dir_writes.proofs.slot_laws.a_cleared_slot_loses_its_name.Goals as goal

pub returns-clause-rules : goal.returns-clause-rules
returns-clause-rules c = rules

pub returns-clause-names : goal.returns-clause-names
returns-clause-names c = names
