use Rattle.std.proofs.Common.{rules, sym, ◌∙◌}
use Rattle.procs_renames.proofs.Doings.{already_agrees, file_can_move, move_cramped, moved_done, not_moved}
use Rattle.procs_renames.proofs.Doings.{renamed_already, stopped_so}
use Rattle.procs_renames.proofs.renames.rename_file.Goals as goal

pub returns-then-is_named-clause-ok : goal.returns-then-is_named-clause-ok
returns-then-is_named-clause-ok g c = λ world tree body goal inside stands from_at to_at can.
    let from = c.args.source.now in
    let to = c.args.target.now in
    let there = c.in_ok-replaced.ensures.ok world tree goal stands to_at in
    let same = already_agrees tree _ c.in_ok-replaced.replaced c.args.file.now.number there in
    renamed_already tree c.args.ctx.now from to body goal c.args.name.now c.args.new_name.now c.args.file.now inside from_at to_at
    can
    (g.F.Files.stands c.args.files.now world) (sym same ∙ sym c.is_named.ensures ∙ c.if-is_named.true) stands

pub returns-in-Some-clause-ok : goal.returns-in-Some-clause-ok
returns-in-Some-clause-ok g c = λ world tree body goal inside stands from_at to_at can.
    let from = c.args.source.now in
    let to = c.args.target.now in
    let there = c.in_ok-replaced.ensures.ok world tree goal stands to_at in
    let same = already_agrees tree _ c.in_ok-replaced.replaced c.args.file.now.number there in
    let apart = sym same ∙ sym c.is_named.ensures ∙ c.if-is_named.false in
    let refusal = c.in_ok-status.ensures.ok world tree inside goal _ stands can.there to_at there in
    not_moved tree c.args.ctx.now from to body goal c.args.name.now c.args.new_name.now c.args.file.now inside from_at to_at
    can
    apart (g.F.Files.stands c.args.files.now world) c.in-Some.status (sym refusal ∙ c.in-Some.is) stands

pub returns-in_default-2-clause-ok : goal.returns-in_default-2-clause-ok
returns-in_default-2-clause-ok g c = λ world tree body goal inside stands from_at to_at can.
    let from = c.args.source.now in
    let to = c.args.target.now in
    let there = c.in_ok-replaced.ensures.ok world tree goal stands to_at in
    let same = already_agrees tree _ c.in_ok-replaced.replaced c.args.file.now.number there in
    let apart = sym same ∙ sym c.is_named.ensures ∙ c.if-is_named.false in
    let refusal = c.in_ok-status.ensures.ok world tree inside goal _ stands can.there to_at there in
    let tested = sym refusal ∙ c.in_default.is in
    move_cramped tree c.args.ctx.now from to body goal c.args.name.now c.args.new_name.now c.args.file.now inside from_at to_at
    can
    apart tested (g.F.Files.stands c.args.files.now world)
    ((rw c.in_default-2.is at c.in_ok-slot.ensures.ok) world tree body goal stands from_at to_at) stands

pub returns-in_err-move_file-clause-resumable : goal.returns-in_err-move_file-clause-resumable
returns-in_err-move_file-clause-resumable g c =
    stopped_so c.from_residual-in_err-move_file.result c.in_err-move_file.field-0.0 _ (search rules)
    (λ world tree body goal inside stands from_at to_at can.
    let from = c.args.source.now in
    let to = c.args.target.now in
    let there = c.in_ok-replaced.ensures.ok world tree goal stands to_at in
    let same = already_agrees tree _ c.in_ok-replaced.replaced c.args.file.now.number there in
    let apart = sym same ∙ sym c.is_named.ensures ∙ c.if-is_named.false in
    let refusal = c.in_ok-status.ensures.ok world tree inside goal _ stands can.there to_at there in
    let tested = sym refusal ∙ c.in_default.is in
    let roomy = (rw c.in-Some-2.is at c.in_ok-slot.ensures.ok) world tree body goal stands from_at to_at in
    c.in_err-move_file.ensures.resumable world tree inside _ stands can.there there
    (file_can_move tree c.args.ctx.now from to body goal c.args.name.now c.args.new_name.now c.args.file.now inside from_at to_at
    can
    apart tested c.in-Some-2.slot roomy))

pub returns-clause-ok : goal.returns-clause-ok
returns-clause-ok g c = λ world tree body goal inside stands from_at to_at can.
    let from = c.args.source.now in
    let to = c.args.target.now in
    let there = c.in_ok-replaced.ensures.ok world tree goal stands to_at in
    let same = already_agrees tree _ c.in_ok-replaced.replaced c.args.file.now.number there in
    let apart = sym same ∙ sym c.is_named.ensures ∙ c.if-is_named.false in
    let refusal = c.in_ok-status.ensures.ok world tree inside goal _ stands can.there to_at there in
    let tested = sym refusal ∙ c.in_default.is in
    let roomy = (rw c.in-Some-2.is at c.in_ok-slot.ensures.ok) world tree body goal stands from_at to_at in
    moved_done tree c.args.ctx.now from to body goal c.args.name.now c.args.new_name.now c.args.file.now inside from_at to_at
    can
    apart tested c.in-Some-2.slot roomy (g.F.Files.stands c.move_file.new.files world)
    (c.in_ok-move_file.ensures.ok world tree inside _ stands can.there there
    (file_can_move tree c.args.ctx.now from to body goal c.args.name.now c.args.new_name.now c.args.file.now inside from_at to_at
    can
    apart tested c.in-Some-2.slot roomy))
