use Rattle.std.proofs.Common.{rules}
use Rattle.layout.specs.Fields.{eight_bytes}
use Rattle.layout.proofs.fields.put_eight.Goals as goal

pub returns-clause-bytes : goal.returns-clause-bytes
unfolding eight_bytes
returns-clause-bytes c = search rules
