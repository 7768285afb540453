-- those so far have their bytes
use Rattle.std.proofs.Common.{◌≡◌, length, take, All}
use Rattle.txn_groups.proofs.group.are_sized.Given as goal

abbrev pub invariant-loop-object : goal.invariant-loop-object
invariant-loop-object l = All (λ object. length object.bytes ≡ object.addr.len) (take l.object-index l.objects)
