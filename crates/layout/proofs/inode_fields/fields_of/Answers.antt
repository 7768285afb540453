use Rattle.layout.specs.InodeForm.{fields_of}
use Rattle.layout.proofs.inode_fields.fields_of.Goals as goal

pub returns : goal.returns
unfolding fields_of
returns c = cc
