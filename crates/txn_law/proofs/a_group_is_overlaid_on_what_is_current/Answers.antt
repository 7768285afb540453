use Rattle.txn_law.proofs.OverlaidContent.{brought}
use Rattle.txn_law.proofs.a_group_is_overlaid_on_what_is_current.Goals as goal

pub returns : goal.returns
returns c = brought
