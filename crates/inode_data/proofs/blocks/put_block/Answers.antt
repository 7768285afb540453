use Rattle.std.proofs.Common.{◌≡◌, ap, subst}
use Rattle.std.proofs.lemmas.Result.{on_ok_weaker}
use Rattle.disk.specs.declared.block.BlockNo.{BlockNo}
use Rattle.layout.specs.Parts.{with_bytes}
use Rattle.inode.specs.WriteSets.WriteSetContents.{Shows}
use Rattle.inode_data.proofs.Once.{block_once}
use Rattle.inode_data.proofs.blocks.put_block.Goals as goal

pub returns-in-Ok-clause-shows : goal.returns-in-Ok-clause-shows
returns-in-Ok-clause-shows c =
    let block : c.whole-whole.result.block.0 ≡ c.args.number = ap (λ (k : BlockNo). k.0) c.whole-whole.ensures.value.0 in
    on_ok_weaker c.put_shared.result (λ shows image is.
    subst (Shows c.put_shared.new.self)
    (λ i. with_bytes image (block i) (c.whole-whole.ensures.value.1 i) (c.in-Ok.ensures.is i)) (shows image is))
    c.put_shared.ensures.shows

pub returns-in-Ok-clause-once : goal.returns-in-Ok-clause-once
returns-in-Ok-clause-once c =
    block_once c.args.write_set.now c.put_shared.new.self c.args.number c.whole-whole.result
    (ap (λ (k : BlockNo). k.0) c.whole-whole.ensures.value.0) c.whole-whole.ensures.value.1 c.whole-whole.ensures.value.2
    c.put_shared.ensures.once
