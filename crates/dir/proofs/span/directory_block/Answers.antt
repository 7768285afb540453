use Rattle.std.proofs.Common.{rules, ◌≡◌, true, false, sym, subst, ◌∙◌, nat_eq}
use Rattle.std.proofs.lemmas.Result.{IfErr-weaker, IfOk-weaker}
use Rattle.layout.specs.Places.{is_data}
use Rattle.inode.specs.Asked.{WasReadBlock}
use Rattle.inode.proofs.InodeThere.{data_of}
use Rattle.inode.proofs.Needed.{indirect_at, mapped_at}
use Rattle.dir.proofs.ValidBlocks.{number_is, was_there}
use Rattle.dir.proofs.Passed.{at_err}
use Rattle.dir.proofs.SlotBlocks.{slot_there, some_there}
use Rattle.dir.proofs.span.directory_block.Goals as goal

pub returns-then-number-eq0-clause-resumable : goal.returns-then-number-eq0-clause-resumable
returns-then-number-eq0-clause-resumable c = λ blocks tree file is less.
    let none : nat_eq c.in_ok-number.number 0 ≡ true = (let h = c.if-number-eq0.true in search rules) in
    let some = some_there c.args.snap.now blocks tree file c.args.inode.now is c.in_ok-number.number c.args.index less
    (c.in_ok-number.ensures.ok blocks tree file is.has) in
    let clash : true ≡ false = sym none ∙ some in cc

pub data_block-requires : goal.data_block-requires
data_block-requires c =
    data_of (nat_eq c.in_ok-number.number 0) (is_data c.args.snap.now.geometry c.in_ok-number.number)
    (let h = c.if-number-eq0.false in search rules) c.in_ok-number.ensures.data

pub returns-clause-ok : goal.returns-clause-ok
returns-clause-ok c =
    IfOk-weaker c.data_block.result _ _ (λ block there blocks tree file is less slot low high.
    slot_there c.args.snap.now blocks tree file c.args.inode.now is c.in_ok-number.number c.args.index slot
    block.now less (c.in_ok-number.ensures.ok blocks tree file is.has) (there blocks tree is.has.over) low high)
    c.data_block.ensures.ok

pub returns-in_err-number-clause-resumable : goal.returns-in_err-number-clause-resumable
returns-in_err-number-clause-resumable c =
    at_err c.from_residual.result c.in_err-number.field-0.0 _ (search rules) (λ blocks tree file is less.
    c.in_err-number.ensures.resumable blocks tree file is.has)

pub returns-in_err-number-clause-asks : goal.returns-in_err-number-clause-asks
returns-in_err-number-clause-asks c =
    at_err c.from_residual.result c.in_err-number.field-0.0 _ (search rules)
    (indirect_at c.args.snap.now c.args.inode.now c.args.index c.in_err-number.field-0.0 c.in_err-number.ensures.asks)

pub returns-clause-asks : goal.returns-clause-asks
returns-clause-asks c =
    IfErr-weaker c.data_block.result _ _
    (mapped_at c.args.snap.now c.args.inode.now c.args.index c.in_ok-number.number c.in_ok-number.ensures.read)
    c.data_block.ensures.asks

pub returns-clause-read : goal.returns-clause-read
returns-clause-read c =
    IfOk-weaker c.data_block.result _ _ (λ block read. record {
      number = c.in_ok-number.number;
      at = c.in_ok-number.ensures.read;
      bytes = block.now;
      read = read;
    }) c.data_block.ensures.read

pub returns-clause-is : goal.returns-clause-is
returns-clause-is c =
    let snap = c.args.snap.now in
    let some : nat_eq c.in_ok-number.number 0 ≡ false = (let h = c.if-number-eq0.false in search rules) in
    IfOk-weaker c.data_block.result _ _ (λ block read blocks number saw at long.
    was_there snap blocks saw number block.now
    (subst (λ n. WasReadBlock snap.objects.items n block.now)
    (sym (number_is snap blocks saw c.args.inode.now c.args.index c.in_ok-number.number number c.requires some
    c.in_ok-number.ensures.read at)) read) long) c.data_block.ensures.read
