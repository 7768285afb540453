use Rattle.std.proofs.Common.{◌<◌, ◌∙◌, ℕ, List, All, sym, subst}
use Rattle.std.specs.List.Sorted.{IsPermutation}
use Rattle.std.proofs.lemmas.List.Sorted.{All-permutation}
use Rattle.inode.specs.WriteSets.WriteSetContents.{image_of}
use Rattle.bitmap.specs.Inodes.Frees.{Frees}
use Rattle.bitmap.proofs.InodesLemmas.InAnyOrder.{frees_permuted}
use Rattle.bitmap.proofs.inodes.block_release.free_all.Goals as goal

pub returns-in-Ok-free_each-clause-frees : goal.returns-in-Ok-free_each-clause-frees
returns-in-Ok-free_each-clause-frees c = λ blocks shows.
    let permuted = subst (λ (xs : List ℕ). IsPermutation xs c.sort_unstable.new.self.items) c.in_ok-rising.ensures.items
    c.sort_unstable.ensures.permutation in
    frees_permuted c.args.write_set.now.there.geometry c.args.numbers.now c.sort_unstable.new.self.items
    (image_of blocks c.args.write_set.now) (image_of blocks c.free_each.new.write_set) permuted
    (subst (λ (xs : List ℕ). Frees c.args.write_set.now.there.geometry xs (image_of blocks c.args.write_set.now)
    (image_of blocks c.free_each.new.write_set)) c.deref.ensures.value (c.in-Ok-free_each.ensures.frees blocks shows))

pub returns-clause-resumable : goal.returns-clause-resumable
returns-clause-resumable c = λ all.
    let blocks = c.args.write_set.now.there.geometry.blocks in
    let permuted = subst (λ (xs : List ℕ). IsPermutation xs c.sort_unstable.new.self.items) c.in_ok-rising.ensures.items
    c.sort_unstable.ensures.permutation in
    c.in-Err-free_each.ensures.resumable (subst (λ (xs : List ℕ). All (λ (number : ℕ). number < blocks) xs)
    (sym c.deref.ensures.value)
    (All-permutation (λ (number : ℕ). number < blocks) c.args.numbers.now c.sort_unstable.new.self.items permuted all))
