use Rattle.std.proofs.Common.{subst}
use Rattle.objects.specs.Pins.{Residents, Unpins, count_in, once_at}
use Rattle.objects.proofs.Wanted.{lets_none}
use Rattle.objects.proofs.residency.Residency.unpin.Goals as goal

pub returns-else-take-eq0 : goal.returns-else-take-eq0
returns-else-take-eq0 c =
    subst (λ (before : Residents). Unpins before (once_at c.args.block)
    (record { blocks = c.self.inside.blocks; counts = c.take.new.pins.entries })) c.self.view_is
    (c.take.ensures.counts, lets_none (count_in c.take.new.pins.entries) c.self.inside.blocks)
