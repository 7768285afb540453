use Rattle.image_contents.proofs.FoundLemmas.Counting.{is_owned}
use Rattle.image_contents.proofs.found.found_laws.what_is_found_is_owned.Goals as goal

pub returns : goal.returns
returns c = λ g blocks table found are is. is_owned g blocks table are found is
