use Rattle.std.proofs.Common.{◌∙◌, subst, sym}
use Rattle.inode.specs.Read.{WasRead}
use Rattle.inode.proofs.read.bytes_at.Goals as goal

pub returns-in-Ok-clause-there : goal.returns-in-Ok-clause-there
returns-in-Ok-clause-there c = λ blocks saw. c.in-Ok.ensures.there blocks saw ∙ sym c.bytes.ensures.bytes

pub returns-in-Ok-clause-read : goal.returns-in-Ok-clause-read
returns-in-Ok-clause-read c =
    subst (WasRead c.args.snap.now.objects.items c.args.addr) (sym c.bytes.ensures.bytes) c.in-Ok.ensures.read
