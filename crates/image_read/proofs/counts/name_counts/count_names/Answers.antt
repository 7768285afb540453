use Rattle.std.proofs.Common.{◌≡◌, ◌+◌, ◌++◌, ◌∷◌, [], get_or, length, map, nat_lt, subst, sym, take, arith}
use Rattle.std.proofs.lemmas.Bool.{ltb-true}
use Rattle.layout.specs.declared.slot.Slot.{Slot}
use Rattle.image_read.proofs.CountsLemmas.More.{AreNamedToo, all_named, each_passes, more_named, none_named, number_of}
use Rattle.image_read.proofs.CountsLemmas.More.{numbers_more}
use Rattle.image_read.proofs.counts.name_counts.count_names.Goals as goal

pub places-init : goal.places-init
places-init c = record {
  counts = c.requires.counts;
  named = λ names by_parent children named.
      none_named names by_parent children c.args.table.now c.args.directory c.args.links.now named;
}

pub count_name-requires-clause-number : goal.count_name-requires-clause-number
count_name-requires-clause-number c =
    let size = length c.args.table.now in
    let slots = c.args.slots.now in
    let slot = c.index-slots-index_within.result in
    ltb-true (get_or slots c.places.index_within slot).number size
    (each_passes (λ (s : Slot). nat_lt s.number size) slots c.places.index_within slot c.requires.numbers c.places-test.true)

pub places-preserved : goal.places-preserved
places-preserved c = record {
  counts = c.count_name.ensures.counts;
  named = λ names by_parent children named.
      let table = c.args.table.now in
      let slots = c.args.slots.now in
      let index_within = c.places.index_within in
      let slot : Slot = get_or slots index_within c.index-slots-index_within.result in
      let links = c.count_name.new.links in
      let more : map number_of (take index_within slots) ++ slot.number ∷ [] ≡ map number_of (take (index_within + 1) slots) =
      sym (numbers_more slots index_within c.index-slots-index_within.result c.places-test.true) in
      subst (λ numbers. AreNamedToo names by_parent children table c.args.directory numbers links) more
      (more_named names by_parent children table c.args.directory (map number_of (take index_within slots)) slot.number links
      (c.count_name.ensures.named _ _ _ (c.places.invariant.named names by_parent children named)));
}

pub returns-clause-named : goal.returns-clause-named
returns-clause-named c = λ names by_parent children named.
    all_named names by_parent children c.args.table.now c.args.directory c.args.slots.now c.places.index_within c.places.links
    (omega (arith, c.places-test.false)) (c.places.invariant.named names by_parent children named)
