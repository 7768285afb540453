use Rattle.std.proofs.Common.{◌≡◌, ◌≤◌, ◌+◌, nat_lt, drop, length, subst, sym}
use Rattle.circ.specs.Log.Log.{changed_blocks, is_among}
use Rattle.wal.specs.Changes.Listed.{Listed}
use Rattle.wal.proofs.ChangesLemmas.AbsorbingChanges.{has_is}
use Rattle.wal.proofs.changes.changes.Changes.has.Goals as goal

pub returns : goal.returns
returns c =
    let fits : c.args.from ≤ length c.self.inside.list.items =
    subst (λ (l : Listed). c.args.from ≤ length l.changes) (sym c.self.view_is) c.requires in
    subst (λ (l : Listed). nat_lt (c.self.inside.index.start + c.args.from) c.name_of.result
    ≡ is_among c.args.block (changed_blocks (drop c.args.from l.changes))) c.self.view_is
    (has_is c.self.inside.index.start c.self.inside.list.items c.self.inside.index.newest.items
    c.self.inside.index.behind.items c.args.block c.args.from c.name_of.result c.self.invariant.index fits
    c.name_of.ensures)
