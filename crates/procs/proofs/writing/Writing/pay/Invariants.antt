-- fewer are owed
use Rattle.procs.proofs.writing.Writing.pay.Given as goal

abbrev pub decreases-owed : goal.decreases-owed
decreases-owed l = l.self.owed
