use Rattle.std.proofs.Common.{◌≡◌, ◌<◌, ◌≤◌, ◌+◌, ◌^◌, ◌++◌, ◌∙◌, List, ap, arith, drop, length, take, sym, subst}
use Rattle.std.proofs.lemmas.List.{length-drop, length-take-le}
use Rattle.circ.specs.declared.log.change.LogChange.{LogChange}
use Rattle.circ.specs.Log.Log.{blocks_of, changed_blocks, new_blocks}
use Rattle.circ.specs.Log.Room.{tail_with}
use Rattle.wal.specs.Changes.Listed.{Listed}
use Rattle.wal.proofs.ChangesLemmas.AbsorbingChanges.{fresh_all, length-tail_with}
use Rattle.wal.proofs.changes.changes.Changes.append.Goals as goal

pub invariant_of-self-2 : goal.invariant_of-self-2
invariant_of-self-2 c =
    let items : List LogChange = c.self.inside.list.items in
    let leading : List LogChange = take c.args.preceding items in
    let tail : List LogChange = drop c.args.preceding items in
    let reserved = c.reserve.ensures.items in
    let fits = subst (λ (l : Listed). c.args.preceding ≤ length l.changes) (sym c.self.view_is) c.requires.preceding in
    let lacking = subst (λ (l : Listed). c.args.lacking ≡ length (new_blocks (changed_blocks (drop c.args.preceding l.changes))
    (blocks_of c.args.group.items))) (sym c.self.view_is) c.requires.lacking in
    let positions = subst (λ (l : Listed). l.start + (length l.changes + c.args.lacking) < 2 ^ 64) (sym c.self.view_is)
    c.requires.positions in
    let long = length-drop c.args.preceding items in
    let preceding_is = length-take-le c.args.preceding items fits in
    let absorbed_count = ap length (c.absorb.ensures.list
    ∙ ap (λ (xs : List LogChange). take c.args.preceding xs ++ tail_with (drop c.args.preceding xs) c.args.place
    c.args.group.items) reserved) in
    let all = length-tail_with leading tail c.args.place c.args.group.items in
    let count = fresh_all (changed_blocks tail) c.args.group.items in
    let start = c.absorb.ensures.start in
    let table = c.absorb.ensures.table in
    let table_was = c.self.invariant.table in
    record {
      table = table ∙ table_was;
      positions = omega (arith, fits, lacking, positions, long, preceding_is, absorbed_count, all, count, start);
      index = c.absorb.ensures.index;
    }
