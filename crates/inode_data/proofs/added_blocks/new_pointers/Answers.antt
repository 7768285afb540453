use Rattle.std.proofs.Common.{◌≡◌, ◌+◌, ◌-◌, max, cond, nat_lt, ap, ◌∙◌, ℕ, arith}
use Rattle.std.proofs.lemmas.Bool.{le-ltb, lt-ltb}
use Rattle.base.specs.declared.TheConstants.{FIRST_DOUBLE_INDEX}
use Rattle.layout.specs.Decode.{numbers_in}
use Rattle.layout.specs.Parts.{content_in}
use Rattle.inode_data.specs.Adding.{missing_between, new_inner}
use Rattle.inode_data.specs.Inner.{inner_of}
use Rattle.inode_data.proofs.added_blocks.new_pointers.Goals as goal

pub returns-then-last-lt-FIRST_DOUBLE_INDEX-clause-ok : goal.returns-then-last-lt-FIRST_DOUBLE_INDEX-clause-ok
returns-then-last-lt-FIRST_DOUBLE_INDEX-clause-ok c = λ blocks tree file has.
    let last = c.args.last in
    let inner = new_inner (content_in c.args.snap.now.geometry blocks) c.args.inode.now c.args.first last in
    let is = c.adds_indirect-indirect.ensures.is in
    let none : ◌≡◌ {A = ℕ} (cond (nat_lt last FIRST_DOUBLE_INDEX) 0 inner) 0 =
    ap (λ t. cond t 0 inner) (lt-ltb last FIRST_DOUBLE_INDEX c.if-last-lt-FIRST_DOUBLE_INDEX.true) in
    omega (arith, is, none)

pub returns-in-Ok-clause-ok : goal.returns-in-Ok-clause-ok
returns-in-Ok-clause-ok c = λ blocks tree file has.
    let last = c.args.last in
    let content = content_in c.args.snap.now.geometry blocks in
    let inners = numbers_in content c.args.inode.now.double in
    let inner = new_inner content c.args.inode.now c.args.first last in
    let is = c.adds_indirect-indirect.ensures.is in
    let some : ◌≡◌ {A = ℕ} (cond (nat_lt last FIRST_DOUBLE_INDEX) 0 inner) inner =
    ap (λ t. cond t 0 inner) (le-ltb last FIRST_DOUBLE_INDEX c.if-last-lt-FIRST_DOUBLE_INDEX.false) in
    let double = c.one_if_none.ensures.is in
    let missing = c.in-Ok.ensures.ok blocks tree file has in
    let low : c.inner_of-least.result ≡ inner_of (max c.args.first FIRST_DOUBLE_INDEX) =
    c.inner_of-least.ensures.is ∙ ap inner_of c.max.ensures in
    let rows : c.inner_of.result + 1 - c.inner_of-least.result
    ≡ inner_of last + 1 - inner_of (max c.args.first FIRST_DOUBLE_INDEX) =
    (λ i. c.inner_of.ensures.is i + 1 - low i) in
    let same : ◌≡◌ {A = ℕ} (missing_between inners c.inner_of-least.result
    (c.inner_of.result + 1 - c.inner_of-least.result))
    (missing_between inners (inner_of (max c.args.first FIRST_DOUBLE_INDEX))
    (inner_of last + 1 - inner_of (max c.args.first FIRST_DOUBLE_INDEX))) =
    (λ i. missing_between inners (low i) (rows i)) in
    omega (arith, is, some, double, missing, same)
