use Rattle.std.proofs.Common.{◌≡◌, ◌∙◌, ◌+◌, ℕ, List, ap, arith, get_or, subst}
use Rattle.std.proofs.lemmas.Option.{get_or_from_slice_get}
use Rattle.disk.specs.declared.block.Side.TheVariants.{Log as LogSide, Home}
use Rattle.circ.specs.declared.log.change.LogChange.{LogChange}
use Rattle.circ.specs.Log.Log.{Log, log_end}
use Rattle.circ.specs.Log.Logger.{slot_block}
use Rattle.wal.specs.ByRole.{IsBody}
use Rattle.wal.specs.View.{log_of}
use Rattle.wal.proofs.memory.Wal.hand_body.Goals as goal

pub returns-in-Log-clause-value : goal.returns-in-Log-clause-value
returns-in-Log-clause-value c =
    let log : Log = log_of c.self.inside in
    let at : c.slot_block.result.0 ≡ slot_block (log_end log + c.args.number) = omega arith in
    let body : IsBody LogSide log c.args.number c.slot_block.result c.shared-content.result = λ change is.
    let one : c.index.result.now ≡ change = c.index.ensures
    ∙ ap (λ (xs : List LogChange). get_or xs (log.logged + c.args.number) c.index.result.now) c.list.ensures
    ∙ get_or_from_slice_get log.changes (log.logged + c.args.number) change c.index.result.now is in
    (ap (λ (n : ℕ). record { 0 = n }) at, c.shared-content.ensures ∙ ap (λ (x : LogChange). x.content) one) in
    rw c.in-Log.is (subst (λ (l : Log). IsBody LogSide l c.args.number c.slot_block.result c.shared-content.result)
    c.self.view_is body)

pub returns-in-Home-clause-value : goal.returns-in-Home-clause-value
returns-in-Home-clause-value c =
    let log : Log = log_of c.self.inside in
    let body : IsBody Home log c.args.number c.index-change.result.now.block c.shared.result = λ change is.
    let one : c.index-change.result.now ≡ change = c.index-change.ensures
    ∙ ap (λ (xs : List LogChange). get_or xs c.args.number c.index-change.result.now) c.list-in-Home.ensures
    ∙ get_or_from_slice_get log.changes c.args.number change c.index-change.result.now is in
    (ap (λ (x : LogChange). x.block) one, c.shared.ensures ∙ ap (λ (x : LogChange). x.content) one) in
    rw c.in-Home.is (subst (λ (l : Log). IsBody Home l c.args.number c.index-change.result.now.block
    c.shared.result) c.self.view_is body)
