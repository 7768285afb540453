-- the bytes so far are zero
use Rattle.std.proofs.Common.{◌≡◌, ◌*◌, true, take}
use Rattle.layout.specs.Fields.{is_zeros}
use Rattle.layout.proofs.fields.is_zeros.Given as goal

abbrev pub invariant-words : goal.invariant-words
invariant-words l = is_zeros (take (8 * l.word) l.bytes) ≡ true
