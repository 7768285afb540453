use Rattle.std.proofs.Common.{rules, ◌≡◌, refl, replicate}
use Rattle.base.specs.declared.TheConstants.{INDIRECT_INDEXES}
use Rattle.layout.specs.InodeForm.{is_data_block_or_none}
use Rattle.layout.specs.Parts.{content_in}
use Rattle.inode.specs.Asked.ArePointerNumbers.{spelled, zeros}
use Rattle.inode.proofs.HeldThere.{no_data, not_placed}
use Rattle.inode.proofs.PointersThere.{spelled_in, zeros_in, zeros_pass}
use Rattle.inode.proofs.map.pointer_numbers.Goals as goal

pub returns-then-pointer-eq0-clause-ok : goal.returns-then-pointer-eq0-clause-ok
returns-then-pointer-eq0-clause-ok c = λ blocks tree over.
    let are : c.in_ok-zeros.zeros.items ≡ replicate INDIRECT_INDEXES 0 = search rules in
    zeros_in (content_in c.args.snap.now.geometry blocks) c.args.pointer c.in_ok-zeros.zeros.items
    (let h = c.if-pointer-eq0.true in search rules) are

pub returns-in_ok-numbers-in-Ok-clause-ok : goal.returns-in_ok-numbers-in-Ok-clause-ok
returns-in_ok-numbers-in-Ok-clause-ok c = λ blocks tree over.
    spelled_in (content_in c.args.snap.now.geometry blocks) c.args.pointer c.in_ok-bytes.bytes.now
    c.in_ok-numbers-in-Ok.numbers.items (let h = c.if-pointer-eq0.false in search rules)
    (c.in_ok-bytes.ensures.ok blocks tree over) (search rules)

pub returns-then-pointer-eq0-clause-read : goal.returns-then-pointer-eq0-clause-read
returns-then-pointer-eq0-clause-read c =
    let are : c.in_ok-zeros.zeros.items ≡ replicate INDIRECT_INDEXES 0 = search rules in
    zeros c.if-pointer-eq0.true are

pub returns-in_ok-numbers-in-Ok-clause-read : goal.returns-in_ok-numbers-in-Ok-clause-read
returns-in_ok-numbers-in-Ok-clause-read c = spelled c.in_ok-bytes.bytes.now c.in_ok-bytes.ensures.read (search rules)

pub returns-then-pointer-eq0-clause-placed : goal.returns-then-pointer-eq0-clause-placed
returns-then-pointer-eq0-clause-placed c =
    let are : c.in_ok-zeros.zeros.items ≡ replicate INDIRECT_INDEXES 0 = search rules in
    zeros_pass c.args.pointer c.in_ok-zeros.zeros.items (is_data_block_or_none c.args.snap.now.geometry)
    (let h = c.if-pointer-eq0.true in search rules) are refl

pub returns-then-not-is_data-clause-resumable : goal.returns-then-not-is_data-clause-resumable
returns-then-not-is_data-clause-resumable c = λ blocks tree over placed indirect_part.
    no_data c.args.snap.now.geometry c.args.pointer (let h = c.if-pointer-eq0.false in search rules)
    (search rules) placed

pub returns-in-Err-clause-resumable : goal.returns-in-Err-clause-resumable
returns-in-Err-clause-resumable c = λ blocks tree over placed indirect_part.
    not_placed c.args.snap.now.geometry blocks c.args.pointer c.in_ok-bytes.bytes.now
    (let h = c.if-pointer-eq0.false in search rules) (c.in_ok-bytes.ensures.ok blocks tree over)
    (rw c.in-Err.is at c.in_ok-read.ensures.refused).1 indirect_part
