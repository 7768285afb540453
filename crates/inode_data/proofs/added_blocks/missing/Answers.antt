use Rattle.std.proofs.Common.{◌≡◌, ◌+◌, ◌<◌, suc, nat_eq, cond, ap, ◌∙◌, length, get_or, arith, ℕ}
use Rattle.base.specs.declared.TheConstants.{FILE_INDEXES}
use Rattle.layout.specs.Decode.{numbers_of}
use Rattle.layout.specs.Fields.{count_of}
use Rattle.layout.specs.Parts.{content_in}
use Rattle.layout.proofs.AllNumbers.{all-length}
use Rattle.inode.proofs.Pieces.{direct}
use Rattle.inode_data.specs.Adding.{filled_up}
use Rattle.inode_data.proofs.FilledUp.{count_next}
use Rattle.inode_data.proofs.added_blocks.missing.Goals as goal

pub indexes-preserved : goal.indexes-preserved
indexes-preserved c =
    let few = c.indexes.invariant.0 in
    let most = c.one_if_none-missing.ensures.few in (
      omega (arith, few, most),
      λ blocks tree file has.
          let content = content_in c.args.snap.now.geometry blocks in
          let numbers = numbers_of content c.args.inode.now in
          let first = c.args.first in
          let step = c.indexes.step in
          let long : length numbers ≡ FILE_INDEXES =
          all-length content c.args.inode.now (direct c.args.snap.now blocks tree file c.args.inode.now has) in
          let within = c.requires in
          let low : first + step < length numbers = omega (arith, long, within, c.indexes-test.true) in
          let so_far = c.indexes.invariant.1 blocks tree file has in
          let one : c.one_if_none-missing.result ≡ cond (nat_eq (get_or numbers (first + step) 0) 0) 1 0 =
          c.one_if_none-missing.ensures.is
          ∙ ap {B = ℕ} (λ n. cond (nat_eq n 0) 1 0) (c.in-Ok.ensures.ok blocks tree file has) in
          let next = count_next numbers first step low in
          let more : step + 1 ≡ suc step = omega arith in
          let all : count_of (filled_up numbers first (step + 1)) ≡ count_of (filled_up numbers first (suc step)) =
          ap (λ k. count_of (filled_up numbers first k)) more in
          omega (arith, so_far, one, next, all),
    )
