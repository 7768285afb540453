use Rattle.std.proofs.Common.{◌≡◌, ℕ, length, arith, subst, sym, ap, ◌∙◌, Some, None}
use Rattle.std.proofs.lemmas.List.{length-map}
use Rattle.circ.specs.declared.log.change.LogChange.{LogChange}
use Rattle.circ.specs.Log.Log.{newest_of}
use Rattle.wal.specs.Changes.Index.{IsNewest, numbers}
use Rattle.wal.specs.Changes.Listed.{Listed}
use Rattle.wal.proofs.ChangesLemmas.IndexLemmas.{found, not_found, of_any}
use Rattle.wal.proofs.changes.changes.Changes.latest.Goals as goal

pub returns-then-name-self : goal.returns-then-name-self
returns-then-name-self c =
    let newest : IsNewest c.self.inside.index.start (numbers c.self.inside.list.items) c.args.block.0 c.name_of-name.result =
    subst (λ (n : ℕ). IsNewest c.self.inside.index.start (numbers c.self.inside.list.items) c.args.block.0 n)
    (sym c.name_of-name.ensures)
    (of_any c.self.inside.index.start (numbers c.self.inside.list.items) c.self.inside.index.newest.items
    c.self.inside.index.behind.items c.args.block.0 c.self.invariant.index) in
    subst (λ (l : Listed). newest_of l.changes c.args.block.0 ≡ None) c.self.view_is
    (not_found c.self.inside.index.start c.self.inside.list.items c.args.block.0 c.name_of-name.result newest
    (omega arith))

pub index-change-requires : goal.index-change-requires
index-change-requires c =
    let newest : IsNewest c.self.inside.index.start (numbers c.self.inside.list.items) c.args.block.0 c.name_of-name.result =
    subst (λ (n : ℕ). IsNewest c.self.inside.index.start (numbers c.self.inside.list.items) c.args.block.0 n)
    (sym c.name_of-name.ensures)
    (of_any c.self.inside.index.start (numbers c.self.inside.list.items) c.self.inside.index.newest.items
    c.self.inside.index.behind.items c.args.block.0 c.self.invariant.index) in
    let within = newest.within in
    let size : length (numbers c.self.inside.list.items) ≡ length c.self.inside.list.items =
    length-map c.self.inside.list.items (λ (change : LogChange). change.block.0) in
    omega (arith, within, size)

pub returns : goal.returns
returns c =
    let newest : IsNewest c.self.inside.index.start (numbers c.self.inside.list.items) c.args.block.0 c.name_of-name.result =
    subst (λ (n : ℕ). IsNewest c.self.inside.index.start (numbers c.self.inside.list.items) c.args.block.0 n)
    (sym c.name_of-name.ensures)
    (of_any c.self.inside.index.start (numbers c.self.inside.list.items) c.self.inside.index.newest.items
    c.self.inside.index.behind.items c.args.block.0 c.self.invariant.index) in
    subst (λ (l : Listed). newest_of l.changes c.args.block.0 ≡ Some c.index-change.result.now.content) c.self.view_is
    (found c.self.inside.index.start c.self.inside.list.items c.args.block.0 c.name_of-name.result
    c.index-change.result.now newest (omega arith)
    ∙ ap (λ (change : LogChange). Some change.content) (sym c.index-change.ensures))
