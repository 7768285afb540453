use Rattle.std.proofs.Common.{◌≡◌, ℕ, ◌-◌, List, length, length-drop, sym, ap, ◌∙◌, subst, take, drop, arith}
use Rattle.std.proofs.Math.Seq.{take-add}
use Rattle.std.proofs.lemmas.List.{take_all}
use Rattle.layout.specs.declared.geometry.Geometry.{Geometry}
use Rattle.inode.specs.WriteSets.WriteSetContents.{image_of}
use Rattle.bitmap.specs.Inodes.Frees.{Frees}
use Rattle.bitmap.proofs.InodesLemmas.Cleared.{frees_both}
use Rattle.bitmap.proofs.inodes.block_release.free_each.Goals as goal

pub numbers-preserved : goal.numbers-preserved
numbers-preserved c =
    let g = c.args.write_set.now.there.geometry in
    let at = c.numbers.at in
    let count = c.in-Ok.count in
    let numbers = c.args.numbers.now in
    -- a slice to the end is the rest
    let rest : take (length numbers - at) (drop at numbers) ≡ drop at numbers =
    take_all (length numbers - at) (drop at numbers) (let left = length-drop at numbers in omega (arith, left)) in
    let long = ap (λ (l : List ℕ). length l) rest in
    let most = c.in-Ok.ensures.most in
    let less = c.numbers-test.true in
    let left = length-drop at numbers in
    let fewer = c.numbers.invariant.4 in
    let few = c.in-Ok.ensures.dirty_count in (
      λ blocks shows. c.in-Ok.ensures.shows blocks (c.numbers.invariant.0 blocks shows),
      λ blocks shows.
          subst (λ l. Frees g l (image_of blocks c.args.write_set.now) (image_of blocks c.free_next.new.write_set))
          (sym (take-add at count numbers))
          (frees_both g (take at numbers) (take count (drop at numbers)) (image_of blocks c.args.write_set.now)
          (image_of blocks c.numbers.write_set) (image_of blocks c.free_next.new.write_set)
          (c.numbers.invariant.1 blocks shows)
          (subst (λ (s : Geometry). Frees s (take count (drop at numbers)) (image_of blocks c.numbers.write_set)
          (image_of blocks c.free_next.new.write_set)) c.numbers.invariant.3
          (subst (λ l. Frees c.numbers.write_set.there.geometry (take count l) (image_of blocks c.numbers.write_set)
          (image_of blocks c.free_next.new.write_set)) rest
          (c.in-Ok.ensures.frees blocks (c.numbers.invariant.0 blocks shows))))),
      c.in-Ok.ensures.seen ∙ c.numbers.invariant.2,
      c.in-Ok.ensures.geometry ∙ c.numbers.invariant.3,
      omega (arith, fewer, few),
      omega (arith, most, long, less, left),
    )

pub returns-clause-frees : goal.returns-clause-frees
returns-clause-frees c = λ blocks shows.
    let past = c.numbers-test.false in
    subst (λ l. Frees c.args.write_set.now.there.geometry l (image_of blocks c.args.write_set.now)
    (image_of blocks c.numbers.write_set))
    (take_all c.numbers.at c.args.numbers.now (omega (arith, past)))
    (c.numbers.invariant.1 blocks shows)
