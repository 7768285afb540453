use Rattle.std.proofs.Common.{◌≡◌, cond, nat_lt, inl, inr, ap, ℕ, arith}
use Rattle.std.proofs.lemmas.Bool.{cases_lt, le-ltb, lt-ltb}
use Rattle.base.specs.declared.TheConstants.{FIRST_DOUBLE_INDEX}
use Rattle.layout.specs.Parts.{content_in}
use Rattle.inode_data.specs.Adding.{new_inner}
use Rattle.inode_data.proofs.FilledUp.{double_added, direct_added}
use Rattle.inode_data.proofs.added_blocks.unmapped_between.Goals as goal

pub returns-in-Ok-new_pointers-clause-ok : goal.returns-in-Ok-new_pointers-clause-ok
returns-in-Ok-new_pointers-clause-ok c = λ blocks tree file has held.
    let g = c.args.snap.now.geometry in
    let inode = c.args.inode.now in
    let first = c.args.first in
    let last = c.args.last in
    let missing = c.in-Ok.missing in
    let pointers = c.in-Ok-new_pointers.ensures.ok blocks tree file held in
    let sum = c.in-Ok.ensures.ok blocks tree file held in
    let inner = new_inner (content_in g blocks) inode first last in
    elim (cases_lt last FIRST_DOUBLE_INDEX) [
      | inl low ↦
          let none : ◌≡◌ {A = ℕ} (cond (nat_lt last FIRST_DOUBLE_INDEX) 0 inner) 0 =
          ap (λ t. cond t 0 inner) (lt-ltb last FIRST_DOUBLE_INDEX low) in
          let added = direct_added g blocks tree file inode has first last missing c.requires.order c.requires.within low
          sum in omega (arith, pointers, none, added)
      | inr past ↦
          let some : ◌≡◌ {A = ℕ} (cond (nat_lt last FIRST_DOUBLE_INDEX) 0 inner) inner =
          ap (λ t. cond t 0 inner) (le-ltb last FIRST_DOUBLE_INDEX past) in
          let added = double_added g blocks tree file inode has first last missing c.requires.order c.requires.within
          past
          sum in omega (arith, pointers, some, added)
    ]
