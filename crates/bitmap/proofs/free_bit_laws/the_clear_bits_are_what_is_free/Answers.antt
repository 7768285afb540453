use Rattle.bitmap.proofs.FreeBits.{free_blocks, free_numbers}
use Rattle.bitmap.proofs.free_bit_laws.the_clear_bits_are_what_is_free.Goals as goal

pub returns-clause-blocks : goal.returns-clause-blocks
returns-clause-blocks c = λ g blocks tree holds. free_blocks g blocks tree holds

pub returns-clause-inodes : goal.returns-clause-inodes
returns-clause-inodes c = λ g blocks tree holds. free_numbers g blocks tree holds
