use Rattle.std.proofs.Common.{◌≤◌, length, arith, subst, sym, ap}
use Rattle.std.proofs.lemmas.List.{length-map, length-drop}
use Rattle.circ.specs.declared.log.change.LogChange.{LogChange}
use Rattle.wal.specs.Changes.Index.{numbers}
use Rattle.wal.specs.Changes.Listed.{Listed}
use Rattle.wal.proofs.ChangesLemmas.IndexLemmas.{taken_out, numbers-drop}
use Rattle.wal.proofs.changes.changes.Changes.take_out.Goals as goal

pub take_out-requires-clause-within : goal.take_out-requires-clause-within
take_out-requires-clause-within c =
    let fits : c.args.count ≤ length c.self.inside.list.items =
    subst (λ (l : Listed). c.args.count ≤ length l.changes) (sym c.self.view_is) c.requires in
    let size = length-map c.self.inside.list.items (λ (change : LogChange). change.block.0) in
    let each = c.self.invariant.index.each in
    omega (arith, fits, size, each)

pub invariant_of-self : goal.invariant_of-self
invariant_of-self c =
    let fits : c.args.count ≤ length c.self.inside.list.items =
    subst (λ (l : Listed). c.args.count ≤ length l.changes) (sym c.self.view_is) c.requires in
    let size = length-map c.self.inside.list.items (λ (change : LogChange). change.block.0) in
    let few = length-drop c.args.count c.self.inside.list.items in
    let left = ap length c.drop_changes.ensures in
    let old = c.self.invariant.positions in
    let table = c.self.invariant.table in
    let start = c.take_out.ensures.start in
    record {
      table = rw c.take_out.ensures.newest table;
      positions = omega (arith, fits, few, left, old, start);
      index = rw (c.drop_changes.ensures, c.take_out.ensures.behind, c.take_out.ensures.newest, start, numbers-drop)
          (taken_out c.self.inside.index.start c.args.count (numbers c.self.inside.list.items)
          c.self.inside.index.newest.items
          c.self.inside.index.behind.items c.self.invariant.index (omega (arith, fits, size)));
    }
