use Rattle.wal.proofs.ChangesLemmas.AbsorbingChanges.{replaced-is}
use Rattle.wal.proofs.changes.absorption.replace.Goals as goal

pub returns-clause-list : goal.returns-clause-list
returns-clause-list c =
    replaced-is c.args.list.now.items c.args.at c.index_mut.result.now c.args.content c.requires
    c.index_mut.ensures.value
