use Rattle.std.proofs.Common.{rules, ◌≡◌, subst}
use Rattle.inode.specs.declared.suspend.Suspend.TheVariants as suspend
use Rattle.inode.specs.Over.{MaySuspend}
use Rattle.procs.proofs.planner.Planner.next_by.Goals as goal

pub returns-in-Err-Need-clause-plan : goal.returns-in-Err-Need-clause-plan
returns-in-Err-Need-clause-plan c =
    let is : c.in-Err-Need.field-0 ≡ suspend.Need c.in-Err-Need.addr c.in-Err-Need.mode = search rules in
    let may : MaySuspend c.args.self.now.snap c.in-Err-Need.field-0 = rw c.in-Err-Need.is at c.go_on-search.ensures.err in
    subst (MaySuspend c.args.self.now.snap) is may

pub returns-in-Some-Need-clause-plan : goal.returns-in-Some-Need-clause-plan
returns-in-Some-Need-clause-plan c =
    let is : c.in-Some-Need.field-0 ≡ suspend.Need c.in-Some-Need.addr c.in-Some-Need.mode = search rules in
    subst (MaySuspend c.args.self.now.snap) is c.in-Some-Need.ensures
