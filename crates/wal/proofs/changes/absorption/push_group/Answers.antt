use Rattle.std.proofs.Common.{◌≡◌, ℕ, ◌+◌, List, [], ◌∷◌, ◌++◌, length, arith, subst, sym, ap, ◌∙◌, All, append_assoc}
use Rattle.std.proofs.lemmas.List.{length_push, map-append}
use Rattle.std.proofs.lemmas.List.Elements.{All-head, All-tail}
use Rattle.std.specs.Vec.Iter.{into_iter_items}
use Rattle.disk.specs.Device.{Content}
use Rattle.disk.specs.declared.block.BlockNo.{BlockNo}
use Rattle.circ.specs.declared.log.change.LogChange.{LogChange}
use Rattle.circ.specs.Log.Log.{IsHomeOn, blocks_of, changes_of}
use Rattle.wal.specs.Changes.Index.{IsIndex, numbers}
use Rattle.wal.proofs.changes.absorption.push_group.Goals as goal

pub track-requires-clause-home : goal.track-requires-clause-home
track-requires-clause-home c =
    let e = c.in-Some.ensures.steps.0 in
    let first = All-head (IsHomeOn (length c.loop-block.index.newest.items)) c.in-Some.block
    (blocks_of (into_iter_items c.next.new.self))
    (subst (λ (xs : List (BlockNo × Content)). All (IsHomeOn (length c.loop-block.index.newest.items)) (blocks_of xs)) e
    c.loop-block.invariant.homes) in
    first.1

pub loop-block-preserved : goal.loop-block-preserved
loop-block-preserved c =
    let e = c.in-Some.ensures.steps.0 in
    let old = c.loop-block.invariant in
    let x : BlockNo × Content = (c.in-Some.block, c.in-Some.content) in
    let rest : List (BlockNo × Content) = into_iter_items c.next.new.self in
    let change : LogChange =
    record { place = 0; block = c.in-Some.block; content = c.in-Some.content } in
    let fewer = ap length e in
    let pushed = c.push_back_reserved.ensures.items in
    let more : length (c.loop-block.list.items ++ change ∷ []) ≡ length c.loop-block.list.items + 1 =
    length_push c.loop-block.list.items change in
    let longer = ap length pushed in
    let still = c.track.ensures.start in
    record {
      group = old.group ∙ ap (λ (xs : List (BlockNo × Content)). c.loop-block.yielded ++ xs) e
          ∙ sym (append_assoc c.loop-block.yielded (x ∷ []) rest);
      list = pushed ∙ ap (λ (xs : List LogChange). xs ++ change ∷ []) old.list
          ∙ append_assoc c.args.list.now.items (changes_of 0 c.loop-block.yielded) (change ∷ [])
          ∙ ap (λ (xs : List LogChange). c.args.list.now.items ++ xs) (sym (map-append _ c.loop-block.yielded (x ∷ [])));
      has_space = (let r = old.has_space in let q = c.push_back_reserved.ensures.capacity in omega (arith, fewer, longer, more, r, q));
      names = (let r = old.names in let q = c.track.ensures.capacity in let l = c.track.ensures.len in omega (arith, fewer, r, q, l));
      positions = (let r = old.positions in omega (arith, fewer, longer, more, r, still));
      start = still ∙ old.start;
      table = c.track.ensures.table ∙ old.table;
      homes = subst (λ (n : ℕ). All (IsHomeOn n) (blocks_of rest)) (sym c.track.ensures.table)
          (All-tail (IsHomeOn (length c.loop-block.index.newest.items)) c.in-Some.block (blocks_of rest)
          (subst (λ (xs : List (BlockNo × Content)). All (IsHomeOn (length c.loop-block.index.newest.items)) (blocks_of xs)) e
          old.homes));
      index = subst (λ (xs : List ℕ). IsIndex c.track.new.self.start xs c.track.new.self.newest.items
          c.track.new.self.behind.items)
          (sym (ap numbers pushed ∙ map-append (λ (other : LogChange). other.block.0) c.loop-block.list.items (change ∷ [])))
          c.track.ensures.index;
    }
