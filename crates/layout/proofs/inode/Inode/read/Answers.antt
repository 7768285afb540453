use Rattle.std.proofs.Common.{arith}
use Rattle.nfs_types.specs.Fits.{AreBytes}
use Rattle.layout.specs.InodeForm.{read_inode, IsInTable}
use Rattle.layout.proofs.ReadBytes.{read_is, is_read, fault_is}
use Rattle.layout.proofs.Refused.{read_or_ok, read_or_err}
use Rattle.layout.proofs.inode.Inode.read.Goals as goal

pub returns-clause-ok : goal.returns-clause-ok
returns-clause-ok c =
    let g = c.args.geometry.now in
    let bytes = c.args.bytes.now in
    let are : AreBytes bytes = λ i. omega (arith, c.type_inv.bytes i) in
    read_or_ok (IsInTable g bytes) (read_inode g bytes)
    (is_read g bytes are c.requires) (read_is g bytes are c.requires)
    (fault_is g bytes are c.requires) c.read_inode.result c.read_inode.ensures

pub returns-clause-err : goal.returns-clause-err
returns-clause-err c =
    let g = c.args.geometry.now in
    let bytes = c.args.bytes.now in
    let are : AreBytes bytes = λ i. omega (arith, c.type_inv.bytes i) in
    read_or_err (IsInTable g bytes) (read_inode g bytes)
    (is_read g bytes are c.requires) (read_is g bytes are c.requires)
    (fault_is g bytes are c.requires) c.read_inode.result c.read_inode.ensures
