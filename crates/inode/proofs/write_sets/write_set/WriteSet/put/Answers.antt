use Rattle.std.proofs.Common.{ℕ, List, OnOk, subst}
use Rattle.disk.specs.Crash.{Image}
use Rattle.layout.specs.Parts.{with_bytes}
use Rattle.inode.specs.WriteSets.WriteSetContents.{Shows}
use Rattle.inode.proofs.write_sets.write_set.WriteSet.put.Goals as goal

pub returns-clause-shows : goal.returns-clause-shows
returns-clause-shows c =
    subst (λ (bytes : List ℕ). OnOk c.put_shared.result ((image : Image) → Shows c.args.self.now image
    → Shows c.put_shared.new.self (with_bytes image c.args.addr.block.0 c.args.addr.offset bytes)))
    c.in_ok-new.ensures c.put_shared.ensures.shows
