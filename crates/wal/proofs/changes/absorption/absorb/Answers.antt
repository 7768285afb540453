use Rattle.std.proofs.Common.{◌≡◌, ◌++◌, ◌∷◌, [], ℕ, List, ap, ◌∙◌, append_assoc, arith, drop, length, refl}
use Rattle.std.proofs.Common.{rules, subst, sym, take, false, All}
use Rattle.std.proofs.lemmas.List.{length-drop, length-map, length-take-le}
use Rattle.std.proofs.lemmas.List.Elements.{All-head, All-tail}
use Rattle.std.specs.Vec.Iter.{into_iter_items}
use Rattle.disk.specs.Device.{Content}
use Rattle.disk.specs.declared.block.BlockNo.{BlockNo}
use Rattle.circ.specs.declared.log.change.LogChange.{LogChange}
use Rattle.circ.specs.Log.Log.{AreOnce, IsHomeOn, blocks_of, changed_blocks, is_among}
use Rattle.wal.specs.Changes.AbsorbedIn.{absorbed_in}
use Rattle.wal.proofs.ChangesLemmas.AbsorbingChanges.{apart_before, among_is, absorbed_is, absorbed_none, length-tail_with, reserved_left, reserved_within}
use Rattle.wal.proofs.changes.absorption.absorb.Goals as goal

pub loop-block-init : goal.loop-block-init
loop-block-init c = record {
  group = search rules;
  list = absorbed_none c.args.list.now.items c.args.preceding c.args.place;
  has_space = refl;
  names = refl;
  start = refl;
  table = refl;
  homes = search rules;
  index = c.requires.index;
}

pub absorb_change-requires-clause-preceding : goal.absorb_change-requires-clause-preceding
absorb_change-requires-clause-preceding c =
    let items : List LogChange = c.args.list.now.items in
    let leading : List LogChange = take c.args.preceding items in
    let tail : List LogChange = drop c.args.preceding items in
    let inv = c.loop-block.invariant in
    let preceding_is : length leading ≡ c.args.preceding = length-take-le c.args.preceding items c.requires.preceding in
    let all = ap length inv.list ∙ length-tail_with leading tail c.args.place c.loop-block.yielded in
    omega (arith, all, preceding_is)

pub absorb_change-requires-clause-has_space : goal.absorb_change-requires-clause-has_space
absorb_change-requires-clause-has_space c = λ h.
    let items : List LogChange = c.args.list.now.items in
    let leading : List LogChange = take c.args.preceding items in
    let tail : List LogChange = drop c.args.preceding items in
    let inv = c.loop-block.invariant in
    let preceding_is : length leading ≡ c.args.preceding = length-take-le c.args.preceding items c.requires.preceding in
    let long = length-drop c.args.preceding items in
    let is = inv.group ∙ ap (λ xs. c.loop-block.yielded ++ xs) c.in-Some.ensures.steps.0 in
    let apart = apart_before c.loop-block.yielded (into_iter_items c.next.new.self) c.in-Some.block c.in-Some.content
    (subst (λ xs. AreOnce (blocks_of xs)) is c.requires.once) in
    let lacks : is_among c.in-Some.block (changed_blocks tail) ≡ false =
    sym (among_is leading tail c.args.place c.loop-block.yielded c.in-Some.block c.in-Some.content c.args.preceding
    preceding_is c.requires.tail apart)
    ∙ subst (λ xs. is_among c.in-Some.block (changed_blocks (drop c.args.preceding xs)) ≡ false) inv.list h in
    let left = reserved_left (changed_blocks tail) c.args.group.items c.loop-block.yielded _ c.in-Some.block
    c.in-Some.content is lacks in
    let all = ap length inv.list ∙ length-tail_with leading tail c.args.place c.loop-block.yielded in
    let each = inv.index.each in
    let each_was = c.requires.index.each in
    let size = length-map c.loop-block.list.items (λ (change : LogChange). change.block.0) in
    let size_was = length-map items (λ (change : LogChange). change.block.0) in
    let has_space = c.requires.has_space in
    let names = c.requires.names in
    let positions = c.requires.positions in
    let capacity_stays = inv.has_space in
    let names_is = inv.names in
    let start_is = inv.start in (
      omega (arith, left, all, preceding_is, long, has_space, capacity_stays),
      omega (arith, left, all, preceding_is, long, each, each_was, size, size_was, names, names_is),
      omega (arith, left, all, preceding_is, long, positions, start_is),
    )

pub absorb_change-requires-clause-position : goal.absorb_change-requires-clause-position
absorb_change-requires-clause-position c =
    let items : List LogChange = c.args.list.now.items in
    let leading : List LogChange = take c.args.preceding items in
    let tail : List LogChange = drop c.args.preceding items in
    let inv = c.loop-block.invariant in
    let preceding_is : length leading ≡ c.args.preceding = length-take-le c.args.preceding items c.requires.preceding in
    let long = length-drop c.args.preceding items in
    let few = reserved_within (changed_blocks tail) c.args.group.items c.loop-block.yielded _ inv.group in
    let all = ap length inv.list ∙ length-tail_with leading tail c.args.place c.loop-block.yielded in
    let positions = c.requires.positions in
    let start_is = inv.start in
    omega (arith, few, all, preceding_is, long, positions, start_is)

pub absorb_change-requires-clause-home : goal.absorb_change-requires-clause-home
absorb_change-requires-clause-home c =
    let e = c.in-Some.ensures.steps.0 in
    let first = All-head (IsHomeOn (length c.loop-block.index.newest.items)) c.in-Some.block
    (blocks_of (into_iter_items c.next.new.self))
    (subst (λ (xs : List (BlockNo × Content)). All (IsHomeOn (length c.loop-block.index.newest.items)) (blocks_of xs)) e
    c.loop-block.invariant.homes) in
    first.1

pub loop-block-preserved : goal.loop-block-preserved
loop-block-preserved c =
    let items : List LogChange = c.args.list.now.items in
    let leading : List LogChange = take c.args.preceding items in
    let tail : List LogChange = drop c.args.preceding items in
    let inv = c.loop-block.invariant in
    let e = c.in-Some.ensures.steps.0 in
    let rest : List (BlockNo × Content) = into_iter_items c.next.new.self in
    let preceding_is : length leading ≡ c.args.preceding = length-take-le c.args.preceding items c.requires.preceding in
    let is = inv.group ∙ ap (λ xs. c.loop-block.yielded ++ xs) e in
    let apart = apart_before c.loop-block.yielded rest c.in-Some.block c.in-Some.content
    (subst (λ xs. AreOnce (blocks_of xs)) is c.requires.once) in
    record {
      group = is ∙ sym (append_assoc c.loop-block.yielded ((c.in-Some.block, c.in-Some.content) ∷ []) rest);
      list = c.absorb_change.ensures.list
          ∙ ap (absorbed_in c.args.preceding c.args.place c.in-Some.block c.in-Some.content) inv.list
          ∙ absorbed_is leading tail c.args.place c.loop-block.yielded c.in-Some.block c.in-Some.content c.args.preceding
          preceding_is c.requires.tail apart;
      has_space = c.absorb_change.ensures.has_space ∙ inv.has_space;
      names = c.absorb_change.ensures.names ∙ inv.names;
      start = c.absorb_change.ensures.start ∙ inv.start;
      table = c.absorb_change.ensures.table ∙ inv.table;
      homes = subst (λ (n : ℕ). All (IsHomeOn n) (blocks_of rest)) (sym c.absorb_change.ensures.table)
          (All-tail (IsHomeOn (length c.loop-block.index.newest.items)) c.in-Some.block (blocks_of rest)
          (subst (λ (xs : List (BlockNo × Content)). All (IsHomeOn (length c.loop-block.index.newest.items)) (blocks_of xs)) e
          inv.homes));
      index = c.absorb_change.ensures.index;
    }
