-- the slot rises
use Rattle.std.proofs.Common.{◌-◌, ◌^◌}
use Rattle.procs.proofs.ahead.Listing.list.Given as goal

abbrev pub decreases-names : goal.decreases-names
decreases-names l = 2 ^ 32 - l.self.from
