use Rattle.std.proofs.Common.{◌≡◌, ◌≤◌, ◌+◌, ◌<◌, ℕ, length, arith, subst, sym, slice_index, drop, take, inl, inr}
use Rattle.std.proofs.lemmas.List.{length-map, get_or_read}
use Rattle.circ.specs.declared.log.change.LogChange.{LogChange}
use Rattle.circ.specs.Log.Installer.{passed_over}
use Rattle.wal.specs.Changes.Listed.{Listed}
use Rattle.wal.specs.Changes.Index.{IsNext, numbers}
use Rattle.circ.proofs.LogLemmas.Newest.{passed_over-end}
use Rattle.wal.proofs.ChangesLemmas.IndexLemmas.{pass_over, newest_ends_at}
use Rattle.wal.proofs.changes.changes.Changes.next_newest.Goals as goal

pub loop-i-preserved : goal.loop-i-preserved
loop-i-preserved c =
    let fits : c.args.end ≤ length c.self.inside.list.items =
    subst (λ (l : Listed). c.args.end ≤ length l.changes) (sym c.self.view_is) c.requires.end in
    let size = length-map c.self.inside.list.items (λ (change : LogChange). change.block.0) in
    let each = c.self.invariant.index.each in
    let is : c.index-name.result.now ≡ slice_index c.self.inside.index.behind.items c.loop-i.i =
    get_or_read c.self.inside.index.behind.items c.loop-i.i c.index-name.result.now (omega (arith, fits, size, each))
    c.index-name.ensures 0 in
    let next : IsNext c.self.inside.index.start (numbers c.self.inside.list.items) c.loop-i.i c.index-name.result.now =
    subst (λ (n : ℕ). IsNext c.self.inside.index.start (numbers c.self.inside.list.items) c.loop-i.i n) (sym is)
    (c.self.invariant.index.of_change c.loop-i.i (omega (arith, fits, size))) in
    let step =
    pass_over c.self.inside.index.start c.self.inside.list.items c.args.end c.loop-i.i c.index-name.result.now fits
    c.loop-i-test.true next (omega arith) c.if-name-past.false in
    let before = c.loop-i.invariant in
    omega (arith, step, before)

pub returns-then-name-eq0-clause-value : goal.returns-then-name-eq0-clause-value
returns-then-name-eq0-clause-value c =
    let fits : c.args.end ≤ length c.self.inside.list.items =
    subst (λ (l : Listed). c.args.end ≤ length l.changes) (sym c.self.view_is) c.requires.end in
    let size = length-map c.self.inside.list.items (λ (change : LogChange). change.block.0) in
    let each = c.self.invariant.index.each in
    let is : c.index-name.result.now ≡ slice_index c.self.inside.index.behind.items c.loop-i.i =
    get_or_read c.self.inside.index.behind.items c.loop-i.i c.index-name.result.now (omega (arith, fits, size, each))
    c.index-name.ensures 0 in
    let next : IsNext c.self.inside.index.start (numbers c.self.inside.list.items) c.loop-i.i c.index-name.result.now =
    subst (λ (n : ℕ). IsNext c.self.inside.index.start (numbers c.self.inside.list.items) c.loop-i.i n) (sym is)
    (c.self.invariant.index.of_change c.loop-i.i (omega (arith, fits, size))) in
    let past : 0 < c.index-name.result.now → c.self.inside.index.start + c.args.end < c.index-name.result.now = λ p.
    elim c.then-name-eq0.either [
      | inl none ↦ absurd (omega (arith, none, p))
      | inr some ↦ some.1
    ] in
    let newest_ends =
    newest_ends_at c.self.inside.index.start c.self.inside.list.items c.args.end c.loop-i.i c.index-name.result.now fits
    c.loop-i-test.true next past in
    let before = c.loop-i.invariant in
    subst (λ (l : Listed). c.loop-i.i ≡ c.args.from + passed_over (drop c.args.from (take c.args.end l.changes)))
    c.self.view_is (omega (arith, newest_ends, before))

pub returns-clause-value : goal.returns-clause-value
returns-clause-value c =
    let fits : c.args.end ≤ length c.self.inside.list.items =
    subst (λ (l : Listed). c.args.end ≤ length l.changes) (sym c.self.view_is) c.requires.end in
    let newest_ends = passed_over-end c.self.inside.list.items c.args.end c.loop-i.i fits c.loop-i-test.false in
    let before = c.loop-i.invariant in
    subst (λ (l : Listed). c.args.end ≡ c.args.from + passed_over (drop c.args.from (take c.args.end l.changes)))
    c.self.view_is (omega (arith, newest_ends, before))
