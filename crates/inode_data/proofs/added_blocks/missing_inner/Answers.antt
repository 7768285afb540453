use Rattle.std.proofs.Common.{◌≡◌, ◌+◌, ◌<◌, suc, nat_eq, cond, ap, ◌∙◌, length, get_or, arith, ℕ}
use Rattle.layout.specs.Decode.{numbers_in}
use Rattle.layout.specs.Parts.{content_in}
use Rattle.layout.proofs.NumbersIn.{in_length}
use Rattle.inode_data.specs.Adding.{missing_between}
use Rattle.inode_data.proofs.FilledUp.{next_missing}
use Rattle.inode_data.proofs.added_blocks.missing_inner.Goals as goal

pub inner-preserved : goal.inner-preserved
inner-preserved c =
    let few = c.inner.invariant.0 in
    let most = c.one_if_none-missing.ensures.few in (
      omega (arith, few, most),
      λ blocks tree file has.
          let content = content_in c.args.snap.now.geometry blocks in
          let numbers = numbers_in content c.args.inode.now.double in
          let first = c.args.first in
          let step = c.inner.step in
          let long = in_length content c.args.inode.now.double in
          let within = c.requires in
          let low : first + step < length numbers = omega (arith, long, within, c.inner-test.true) in
          let so_far = c.inner.invariant.1 blocks tree file has in
          let one : c.one_if_none-missing.result ≡ cond (nat_eq (get_or numbers (first + step) 0) 0) 1 0 =
          c.one_if_none-missing.ensures.is
          ∙ ap {B = ℕ} (λ n. cond (nat_eq n 0) 1 0) (c.in-Ok.ensures.ok blocks tree file has) in
          let next = next_missing numbers first step low in
          let more : step + 1 ≡ suc step = omega arith in
          let all : missing_between numbers first (step + 1) ≡ missing_between numbers first (suc step) =
          ap (missing_between numbers first) more in
          omega (arith, so_far, one, next, all),
    )
