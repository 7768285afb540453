use Rattle.image_read.proofs.LawsLemmas.Nodes.{sound_node}
use Rattle.image_read.proofs.image_laws.whole_image.a_file_of_an_image_is_sound_by_itself.Goals as goal

pub returns : goal.returns
returns c = λ g content inode long are sound names. sound_node g content long are inode sound names
