use Rattle.nfs_spec.proofs.ModelLemmas.Boots.{no_later}
use Rattle.nfs_spec.proofs.model.setattr.a_setattr_makes_no_later_stamp.Goals as goal

pub returns : goal.returns
returns c = no_later
