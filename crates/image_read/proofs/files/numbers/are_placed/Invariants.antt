use Rattle.std.proofs.Common.{◌≡◌, true, take}
use Rattle.std.specs.List.{list_all}
use Rattle.layout.specs.InodeForm.{is_data_block_or_none}
use Rattle.image_read.proofs.files.numbers.are_placed.Given as goal

abbrev pub invariant-loop-number : goal.invariant-loop-number
invariant-loop-number l = list_all (is_data_block_or_none l.geometry) (take l.number-index l.numbers) ≡ true
