-- What the block has is what the super block is written as.
use Rattle.std.proofs.Common.{◌∙◌, subst, sym}
use Rattle.store_images.specs.BringingHome.{BringsHome, PreservesBlocks}
use Rattle.store_images.proofs.opening.increment.Goals as goal

pub returns-clause-incremented : goal.returns-clause-incremented
returns-clause-incremented g c = λ before log lawful none brings.
    let written = c.put_whole.ensures ∙ c.deref.ensures.value ∙ c.in_ok-bytes.ensures.bytes in
    subst (λ incremented. PreservesBlocks before (g.D.CrashDisk.device c.put_super.new.disk) incremented) written
    (c.in-Err.ensures.incremented before log lawful none
    (subst (λ incremented. BringsHome before incremented (g.D.CrashDisk.device c.args.disk.now) log)
    (sym written) brings))
