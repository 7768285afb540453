use Rattle.store_promise.proofs.FileBlocks.{has_blocks, held_now}
use Rattle.store_promise.proofs.file_blocks.what_is_held_is_what_the_files_are.Goals as goal

pub returns-clause-stands : goal.returns-clause-stands
returns-clause-stands c = has_blocks

pub returns-clause-read : goal.returns-clause-read
returns-clause-read c = λ base d core logging installing boot first last entries tx object since read.
    held_now base d core logging installing boot first last entries since tx object read
