use Rattle.std.proofs.lemmas.List.{get_or-drop}
use Rattle.std.proofs.Common.{◌∙◌, add-zero}
use Rattle.objects.specs.Numbers.{four_at}
use Rattle.objects.proofs.counted.four_at.Goals as goal

pub returns : goal.returns
unfolding four_at
returns c = c.from_le_bytes.ensures ∙ simp (get_or-drop, add-zero)
