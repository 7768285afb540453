use Rattle.procs.proofs.planner.Planner.compared.Goals as goal

pub returns-in-Some : goal.returns-in-Some
returns-in-Some c = λ call dentry of one none long blocks inode saw there.
    let is = c.in-Some.is in
    c.compared.ensures c.args.self.now.snap call dentry (c.args.self.now.known.known c.in-Some.names is)
    (of.of_call c.in-Some.names is) one none long blocks inode saw there
