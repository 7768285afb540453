use Rattle.std.proofs.Common.{sym}
use Rattle.inode.proofs.HadExclusive.{seen_by}
use Rattle.inode.proofs.snap.Snap.has_read.Goals as goal

pub returns-in-Some : goal.returns-in-Some
returns-in-Some c = sym (seen_by c.args.addr c.in-Some.field-0.now c.args.self.now.objects.items c.in-Some.ensures.there
    c.in-Some.ensures.some)
