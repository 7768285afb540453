use Rattle.std.proofs.Common.{◌≡◌, Result, Option, IfOk, IfErr, arith}
use Rattle.nfs_types.specs.Fits.{AreBytes}
use Rattle.layout.specs.declared.fault.LayoutFault.{LayoutFault}
use Rattle.layout.specs.declared.fault.LayoutFault.TheVariants.{Range}
use Rattle.layout.specs.declared.slot.Slot.{Slot}
use Rattle.layout.specs.SlotForm.{read_slot, IsInDirectory}
use Rattle.layout.proofs.SlotBytes.{read_is, is_read, fault_is}
use Rattle.layout.proofs.Refused.{read_or_ok, read_or_err, under}
use Rattle.layout.proofs.slot.Slot.read.Goals as goal

pub returns-clause-ok : goal.returns-clause-ok
returns-clause-ok c =
    let inodes = c.args.inodes in
    let bytes = c.args.bytes.now in
    let are : AreBytes bytes = λ i. omega (arith, c.type_inv.bytes i) in
    under (λ (found : Result (Option Slot) LayoutFault). found ≡ read_slot inodes bytes)
    (λ found. IfOk found (λ one. IsInDirectory inodes bytes one))
    (read_or_ok (IsInDirectory inodes bytes) (read_slot inodes bytes)
    (is_read inodes bytes are c.requires) (read_is inodes bytes are c.requires)
    (fault_is inodes bytes are c.requires)) c.read_slot.result c.read_slot.ensures

pub returns-clause-err : goal.returns-clause-err
returns-clause-err c =
    let inodes = c.args.inodes in
    let bytes = c.args.bytes.now in
    let are : AreBytes bytes = λ i. omega (arith, c.type_inv.bytes i) in
    under (λ (found : Result (Option Slot) LayoutFault). found ≡ read_slot inodes bytes)
    (λ found. IfErr found (λ fault. (fault ≡ Range)
    × ((one : Option Slot) → IsInDirectory inodes bytes one → ⊥)))
    (read_or_err (IsInDirectory inodes bytes) (read_slot inodes bytes)
    (is_read inodes bytes are c.requires) (read_is inodes bytes are c.requires)
    (fault_is inodes bytes are c.requires)) c.read_slot.result c.read_slot.ensures
