use Rattle.image_contents.proofs.FoundLemmas.Counting.{is_counted}
use Rattle.image_contents.proofs.found.found_laws.what_is_found_is_counted.Goals as goal

pub returns : goal.returns
returns c = λ g blocks table found long are fits is. is_counted g blocks table are long found fits is
