use Rattle.procs.proofs.done.DoneChange.is_planned.Goals as goal

pub returns : goal.returns
returns c = (c.args.self.now.ctx, c.args.self.now.asked, c.finished.ensures)
