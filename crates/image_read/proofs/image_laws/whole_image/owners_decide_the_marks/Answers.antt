use Rattle.image_read.proofs.LawsLemmas.Marks.{bits_of_marked, marked_by, not_shared}
use Rattle.image_read.proofs.image_laws.whole_image.owners_decide_the_marks.Goals as goal

pub returns : goal.returns
returns c = record { marked = marked_by; bits = bits_of_marked; shared = not_shared }
