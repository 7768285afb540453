use Rattle.std.proofs.Common.{◌≡◌, ◌++◌, ◌∷◌, ◌∙◌, filter, length, subst, sym, take, true, get_or, arith}
use Rattle.image_read.specs.Counts.Adds.{is_none_or_below, is_some}
use Rattle.image_read.proofs.CountsLemmas.More.{all_blocks, each_passes, more_blocks}
use Rattle.image_read.proofs.counts.blocks.meet_blocks.Goals as goal

pub meet_block-requires-in-places : goal.meet_block-requires-in-places
meet_block-requires-in-places c =
    subst (λ size. is_none_or_below size (get_or c.args.numbers.now c.places.index_within 0) ≡ true)
    (sym c.places.invariant.size)
    (each_passes (is_none_or_below (length c.args.owners.now.has)) c.args.numbers.now c.places.index_within 0
    c.requires.numbers c.places-test.true)

pub places-preserved : goal.places-preserved
places-preserved c = record {
  size = c.meet_block-in-places.ensures.size ∙ c.places.invariant.size;
  met = λ met owned.
      more_blocks met c.args.indirect c.args.numbers.now c.meet_block-in-places.new.owners c.places.index_within
      c.places-test.true
      (c.meet_block-in-places.ensures.met
      (met ++ filter is_some (c.args.indirect ∷ take c.places.index_within c.args.numbers.now))
      (c.places.invariant.met met owned));
}

pub returns-clause-met : goal.returns-clause-met
returns-clause-met c = λ met owned.
    all_blocks met c.args.indirect c.args.numbers.now c.places.owners c.places.index_within
    (omega (arith, c.places-test.false)) (c.places.invariant.met met owned)
