use Rattle.std.proofs.Common.{◌≤◌, sym, subst}
use Rattle.inode.specs.WriteSets.WriteSetContents.{WriteSetContents, MOST_DIRTY, dirty_count}
use Rattle.inode.proofs.WriteSetsLemmas.FewBlocks.{few_blocks}
use Rattle.inode.proofs.write_sets.write_set.WriteSet.into_written.Goals as goal

pub returns-clause-few : goal.returns-clause-few
returns-clause-few c = λ few.
    few_blocks c.self.inside.there.geometry c.self.inside.written.items c.self.invariant.grid
    (subst (λ (d : WriteSetContents). dirty_count d ≤ MOST_DIRTY) (sym c.self.view_is) few)
