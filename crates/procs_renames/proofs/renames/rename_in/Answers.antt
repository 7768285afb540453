use Rattle.std.proofs.lemmas.Result.{IfErr-weaker, IfOk-weaker}
use Rattle.procs_renames.proofs.Doings.{let_rename, stopped_first}
use Rattle.procs_renames.specs.Moves.{dentry_of}
use Rattle.procs_renames.proofs.renames.rename_in.Goals as goal

pub returns-in-Err-clause-ok : goal.returns-in-Err-clause-ok
returns-in-Err-clause-ok g c = λ world tree body goal stands from_at to_at good now bytes.
    stopped_first tree c.args.ctx.now (dentry_of c.args.source.now body c.args.name.now)
    (dentry_of c.args.target.now goal c.args.new_name.now) (g.F.Files.stands c.args.files.now world) c.in-Err.status
    ((rw c.in-Err.is at c.in_ok-status.ensures.ok) world tree body goal stands from_at to_at) stands

pub returns-in-Ok-clause-resumable : goal.returns-in-Ok-clause-resumable
returns-in-Ok-clause-resumable g c =
    IfErr-weaker c.rename_file.result _ _ (λ suspend then world tree body goal stands from_at to_at good now bytes.
    let source_found = (rw c.in-Ok.is at c.in_ok-status.ensures.ok) world tree body goal stands from_at to_at in
    then world tree body goal source_found.1.0 stands from_at to_at
    (let_rename tree c.args.ctx.now (dentry_of c.args.source.now body c.args.name.now)
    (dentry_of c.args.target.now goal c.args.new_name.now) c.in-Ok.file good now bytes source_found.0 source_found.1))
    c.rename_file.ensures.resumable

pub returns-in-Ok-clause-ok : goal.returns-in-Ok-clause-ok
returns-in-Ok-clause-ok g c =
    IfOk-weaker c.rename_file.result _ _ (λ r then world tree body goal stands from_at to_at good now bytes.
    let source_found = (rw c.in-Ok.is at c.in_ok-status.ensures.ok) world tree body goal stands from_at to_at in
    then world tree body goal source_found.1.0 stands from_at to_at
    (let_rename tree c.args.ctx.now (dentry_of c.args.source.now body c.args.name.now)
    (dentry_of c.args.target.now goal c.args.new_name.now) c.in-Ok.file good now bytes source_found.0 source_found.1))
    c.rename_file.ensures.ok
