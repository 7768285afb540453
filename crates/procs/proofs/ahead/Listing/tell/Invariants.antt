-- fewer are left
use Rattle.std.proofs.Common.{◌-◌, vec_len}
use Rattle.procs.proofs.ahead.Listing.tell.Given as goal

abbrev pub decreases-numbers : goal.decreases-numbers
decreases-numbers l = vec_len l.self.numbers - l.self.emitted
