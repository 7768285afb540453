use Rattle.std.proofs.Common.{◌≡◌, true, take}
use Rattle.std.specs.List.{list_all}
use Rattle.layout.specs.Places.{is_data}
use Rattle.image_read.proofs.files.slots.are_data.Given as goal

abbrev pub invariant-loop-number : goal.invariant-loop-number
invariant-loop-number l = list_all (is_data l.geometry) (take l.number-index l.numbers) ≡ true
