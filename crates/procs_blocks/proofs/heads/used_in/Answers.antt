use Rattle.procs_blocks.proofs.heads.used_in.Goals as goal

pub returns-in-Some-clause-ok : goal.returns-in-Some-clause-ok
returns-in-Some-clause-ok c = λ blocks tree file has.
    c.in-Some.ensures.some c.args.snap.now blocks tree file (record { has = has; kind = c.in-Directory.is })
