use Rattle.std.proofs.Common.{arith, refl, replicate}
use Rattle.layout.specs.declared.slot.TheConstants.{SLOT_BYTES}
use Rattle.layout.proofs.NamedSlot.{patterned, short}
use Rattle.layout.proofs.name_pattern.NamePattern.of.Goals as goal

pub returns-then-name-gt-NAME_BYTES-clause-none : goal.returns-then-name-gt-NAME_BYTES-clause-none
returns-then-name-gt-NAME_BYTES-clause-none c = λ inodes number bytes long is.
    let more = c.if-name-gt-NAME_BYTES.true in
    let most = short inodes bytes c.args.name.now number long is in
    omega (arith, more, most)

pub invariant_of-result : goal.invariant_of-result
invariant_of-result c =
    patterned c.args.name.now (replicate SLOT_BYTES 0) c.to_le_bytes-count.result c.put.new.bytes c.put-2.new.bytes refl
    c.to_le_bytes-count.ensures c.put.ensures c.put-2.ensures
