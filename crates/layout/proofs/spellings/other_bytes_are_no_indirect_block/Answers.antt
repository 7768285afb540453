use Rattle.layout.proofs.NumbersBytes.{refused}
use Rattle.layout.proofs.spellings.other_bytes_are_no_indirect_block.Goals as goal

pub returns : goal.returns
returns c = λ g bytes numbers are long some_unplaced is. refused g bytes are long some_unplaced numbers is
