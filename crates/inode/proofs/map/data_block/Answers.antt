use Rattle.std.proofs.Common.{◌∙◌, subst, sym}
use Rattle.inode.specs.Asked.{WasReadBlock}
use Rattle.inode.proofs.map.data_block.Goals as goal

pub returns-in-Ok-clause-ok : goal.returns-in-Ok-clause-ok
returns-in-Ok-clause-ok c = λ blocks tree over. c.bytes.ensures.bytes ∙ c.in-Ok.ensures.ok blocks tree over

pub returns-in-Ok-clause-read : goal.returns-in-Ok-clause-read
returns-in-Ok-clause-read c =
    subst (WasReadBlock c.args.snap.now.objects.items c.args.number) (sym c.bytes.ensures.bytes) c.in-Ok.ensures.read
