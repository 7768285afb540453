use Rattle.disk_file.specs.FileBlocks.{file_blocks}
use Rattle.disk_file.specs.Sides.{file_calls}
use Rattle.disk_file.proofs.SideLemmas.{made}
use Rattle.disk_file.proofs.file_laws.calls_of_a_file_are_the_devices.Goals as goal

pub returns-clause-call : goal.returns-clause-call
returns-clause-call c first size calls later call result preserves = made first size calls later call result preserves

pub returns-clause-blocks : goal.returns-clause-blocks
returns-clause-blocks c first size calls preserves of = file_blocks first size (file_calls calls) preserves of
