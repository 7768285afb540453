use Rattle.layout.proofs.NumbersBytes.{are_numbers, numbers_are}
use Rattle.layout.proofs.spellings.an_indirect_block_is_its_bytes.Goals as goal

pub returns : goal.returns
returns c = λ g bytes numbers are long. (
  λ read. are_numbers g bytes are long numbers read.0 read.1,
  λ is. (numbers_are g bytes are long numbers is, is.sound.places),
)
