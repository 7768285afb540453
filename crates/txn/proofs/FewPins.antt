-- Lemmas: a block is pinned no more often than 128 bits count, and as many more times as a list has entries.
use Rattle.std.proofs.Common.{◌+◌, ◌*◌, ◌-◌, ◌^◌, ◌<◌, ◌≤◌, ℕ, List, [], ◌∷◌, All, length, nat_eq, get_or, arith}
use Rattle.std.proofs.lemmas.List.{length-map}
use Rattle.std.proofs.lemmas.List.Elements.{All-head, All-tail}
use Rattle.disk.specs.declared.block.BlockNo.{BlockNo}
use Rattle.objects.specs.Object.{ObjectBytes}
use Rattle.objects.specs.Pins.{Residents, pins_of}
use Rattle.txn_law.specs.Window.{Footprint}
use Rattle.txn_law.specs.declared.hold.Hold.{Hold}
use Rattle.txn.specs.Pinned.{AreCountable, AreFew, block_of_each, holds_in, objects_in, reads_in}
use Rattle.txn.proofs.Counted.{count_most, objects_are, once_most}

-- no more than there are holds
holds_most : (holds : List Hold) (at : BlockNo) → holds_in holds at ≤ length holds
holds_most [] at = omega arith
holds_most (hold ∷ later) at =
    let rest = holds_most later at in let one = once_most (nat_eq at.0 hold.addr.block.0) in omega (arith, rest, one)

-- no more of what a commit read than that is
objects_most : (objects : List ObjectBytes) (at : BlockNo) → objects_in objects at ≤ length objects
objects_most objects at =
    let most = count_most (block_of_each objects) at in let same = objects_are objects at in
    let long = length-map objects (λ (object : ObjectBytes). object.addr.block) in omega (arith, most, same, long)

reads_most : (records : List Footprint) (at : BlockNo) → AreFew records
    → reads_in records at ≤ length records * (2 ^ 64 - 1)
reads_most [] at few = omega arith
reads_most (kept ∷ later) at few =
    let rest = reads_most later at (All-tail (λ (one : Footprint). length one.read < 2 ^ 64) kept later few) in
    let one = objects_most kept.read at in
    let short = All-head (λ (one : Footprint). length one.read < 2 ^ 64) kept later few in
    omega (arith, rest, one, short)

pub pins_few : (holds : List Hold) (records : List Footprint) (at : BlockNo) → length holds < 2 ^ 64
    → length records < 2 ^ 64 → AreFew records → holds_in holds at + reads_in records at + 2 ^ 64 ≤ 2 ^ 128
pins_few holds records at taken kept few =
    let of_holds = holds_most holds at in let of_reads = reads_most records at few in
    omega (arith, of_holds, of_reads, taken, kept)

-- so as many more as what a commit read
pub are_countable : (residents : Residents) (objects : List ObjectBytes) → length objects < 2 ^ 64
    → ((at : BlockNo) → pins_of residents at + 2 ^ 64 ≤ 2 ^ 128) → AreCountable residents (block_of_each objects)
are_countable residents objects short few = λ i d lt.
    let long = length-map objects (λ (object : ObjectBytes). object.addr.block) in
    let one = few (get_or (block_of_each objects) i d) in omega (arith, short, long, one)
