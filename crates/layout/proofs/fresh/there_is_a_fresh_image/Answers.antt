use Rattle.layout.proofs.FreshBytes.{is_fresh}
use Rattle.layout.proofs.fresh.there_is_a_fresh_image.Goals as goal

pub returns : goal.returns
returns c = λ g moment lawful. is_fresh g moment
