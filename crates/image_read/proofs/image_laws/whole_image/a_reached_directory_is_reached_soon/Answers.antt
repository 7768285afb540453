use Rattle.image_read.proofs.LawsLemmas.Reached.{furthest_reached, reached_furthest}
use Rattle.image_read.proofs.image_laws.whole_image.a_reached_directory_is_reached_soon.Goals as goal

pub returns : goal.returns
returns c = record {
  furthest = λ tree size furthest number within fixed past inside reached.
      furthest_reached tree size furthest within fixed past number inside reached;
  reached = λ tree size furthest number within fixed past inside there.
      reached_furthest tree size furthest within fixed past number inside there;
}
