use Rattle.std.proofs.Common.{◌≡◌, ◌<◌, ◌+◌, ◌∷◌, ap, length, drop, drop-cons, add-one, false, refl, arith}
use Rattle.std.proofs.Common.{lit<}
use Rattle.txn_law.specs.Group.{is_among}
use Rattle.txn_groups.proofs.Blocks.{reserved_left}
use Rattle.txn_groups.proofs.group.blocks_of_objects.Goals as goal

-- a block that isn't among those found finds room, since in the end there are no more than a change may write
pub push-requires : goal.push-requires
push-requires c =
    let i = c.loop-object.object-index in
    let lt : i < length c.args.objects.now = omega arith in
    let split : drop i c.args.objects.now ≡ c.object-item.result ∷ drop (i + 1) c.args.objects.now =
    rw (add-one, drop-cons c.args.objects.now i c.object-item.result, ← c.object-item.is) refl in
    let fresh : is_among c.object-item.result.addr.block c.loop-object.blocks.items ≡ false = cc in
    let more = reserved_left c.loop-object.blocks.items (drop i c.args.objects.now) c.object-item.result
    (drop (i + 1) c.args.objects.now) split fresh in
    (lit< tt, omega (arith, more, ap length c.loop-object.invariant, c.requires))
