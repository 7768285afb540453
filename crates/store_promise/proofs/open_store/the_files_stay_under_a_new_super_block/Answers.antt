use Rattle.store_promise.proofs.Opened.{under_new}
use Rattle.store_promise.proofs.open_store.the_files_stay_under_a_new_super_block.Goals as goal

pub returns : goal.returns
returns c = under_new
