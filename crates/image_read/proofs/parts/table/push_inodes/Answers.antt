use Rattle.std.proofs.Common.{rules, ◌≡◌, ℕ, ◌-◌, ◌*◌, ◌∙◌, ap, take, drop, ◌++◌, ◌∷◌, [], subst, sym, ◌+◌, Ok, Err, arith}
use Rattle.base.specs.declared.TheConstants.{INODE_BYTES}
use Rattle.layout.specs.InodeForm.{read_inode}
use Rattle.image_read.specs.Parts.Table.{ArePushed, HasRefusedInodeIn, inode_in}
use Rattle.image_read.proofs.PartsLemmas.Pushed.{no_inode, one_pushed}
use Rattle.image_read.proofs.parts.table.push_inodes.Goals as goal

pub returns-in_err-inode-clause-refused : goal.returns-in_err-inode-clause-refused
returns-in_err-inode-clause-refused c =
    let is : inode_in c.args.geometry.now c.args.block.now c.slots.slot ≡ Err c.in_err-inode.field-0.0 = search rules in
    let refused : HasRefusedInodeIn c.args.geometry.now c.args.block.now =
    no_inode c.args.geometry.now c.args.block.now c.slots.slot c.in_err-inode.field-0.0 (omega (arith, c.slots-test.true)) is in
    search rules

wide : (slot : ℕ) → INODE_BYTES * slot + INODE_BYTES - INODE_BYTES * slot ≡ INODE_BYTES
wide slot = omega arith

pub slots-preserved : goal.slots-preserved
slots-preserved c =
    let is : inode_in c.args.geometry.now c.args.block.now c.slots.slot ≡ Ok c.in_ok-inode.inode =
    ap (λ n. read_inode c.args.geometry.now (take n (drop (INODE_BYTES * c.slots.slot) c.args.block.now)))
    (sym (wide c.slots.slot)) ∙ sym c.in_ok-inode.ensures.value in
    let items : c.push.new.self.items ≡ c.slots.table.items ++ c.in_ok-inode.inode ∷ [] = search rules in
    subst (ArePushed c.args.geometry.now c.args.block.now (c.slots.slot + 1) c.args.table.now.items) (sym items)
    (one_pushed c.args.geometry.now c.args.block.now c.slots.slot c.args.table.now.items c.slots.table.items
    c.in_ok-inode.inode c.slots.invariant is)
