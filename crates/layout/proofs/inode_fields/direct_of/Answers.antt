use Rattle.layout.specs.Fields.{numbers_at}
use Rattle.layout.proofs.inode_fields.direct_of.Goals as goal

pub returns : goal.returns
unfolding numbers_at
returns c = cc
