use Rattle.std.proofs.Common.{rules, ◌≡◌, true, false, sym, ◌∙◌, subst, nat_eq}
use Rattle.layout.specs.Places.{is_data}
use Rattle.layout.proofs.AllNumbers.{maps}
use Rattle.inode.specs.declared.snap.Snap.{Snap}
use Rattle.inode.proofs.InodeThere.{data_of, is_read}
use Rattle.inode.specs.WriteSets.WriteSetContents.{image_of}
use Rattle.dir_writes.proofs.growth.grow.Goals as goal

pub returns-then-not-is_data-clause-resumable : goal.returns-then-not-is_data-clause-resumable
returns-then-not-is_data-clause-resumable c = λ blocks tree write_set is.
    let g = c.args.write_set.now.there.geometry in
    let inode = c.args.inode.now in
    let base = image_of blocks c.args.write_set.now in
    let placed = (maps g inode (is_read g base tree c.args.number inode is.has.over.holds is.has.less is.has.there)).1 in
    let some : nat_eq inode.indirect 0 ≡ false = (let h = c.if-inode-eq0.false in search rules) in
    let lies = data_of (nat_eq inode.indirect 0) (is_data g inode.indirect) some placed in
    let isnt : c.is_data.result ≡ false = (let h = c.if-not-is_data.true in search rules) in
    let proven = subst (λ (s : Snap). c.is_data.result ≡ is_data s.geometry inode.indirect) c.there.ensures.there
    c.is_data.ensures in
    let clash : true ≡ false = sym lies ∙ sym proven ∙ isnt in cc
