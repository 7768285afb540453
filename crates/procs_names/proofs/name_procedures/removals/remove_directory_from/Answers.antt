use Rattle.std.proofs.Common.{rules, sym, subst, ◌≡◌, Err, IfErr}
use Rattle.nfs_spec.specs.Model.Node.{Body}
use Rattle.nfs_spec.specs.Model.Sound.{Sound, SoundCtx}
use Rattle.nfs_spec.specs.Model.Tree.{Tree}
use Rattle.procs_files.specs.Heads.{IsFileIn}
use Rattle.procs_names.proofs.NamesLemmas.Removed.{can_be_taken, stopped_first, stopped_then, taken, there}
use Rattle.nfs_spec.specs.Procedures.RmDir.{rmdir_tests}
use Rattle.procs_names.proofs.name_procedures.removals.remove_directory_from.Goals as goal

pub returns-in-Err-clause-ok : goal.returns-in-Err-clause-ok
returns-in-Err-clause-ok g c = λ world tree body stands at good now.
    stopped_first (g.F.Files.stands c.args.files.now world) tree c.args.ctx.now c.args.name.now c.args.directory.now body
    (λ file. rmdir_tests c.args.name.now file) c.in-Err.status
    ((rw c.in-Err.is at c.in_ok-status.ensures.ok) world tree body stands at) stands

pub returns-in-Err-2-clause-ok : goal.returns-in-Err-2-clause-ok
returns-in-Err-2-clause-ok g c = λ world tree body stands at good now.
    let first = (rw c.in-Ok.is at c.in_ok-status.ensures.ok) world tree body stands at in
    stopped_then (g.F.Files.stands c.args.files.now world) tree c.args.ctx.now c.args.name.now c.args.directory.now body
    (λ file. rmdir_tests c.args.name.now file) c.in-Ok.found c.in-Err-2.status first
    ((rw c.in-Err-2.is at c.in_ok-status-2.ensures.ok) world tree _ stands first.1) stands

pub returns-in_err-take_name-clause-resumable : goal.returns-in_err-take_name-clause-resumable
returns-in_err-take_name-clause-resumable g c =
    let same : c.from_residual-in_err-take_name.result ≡ Err c.in_err-take_name.field-0.0 = search rules in
    let rest : (world : g.F.Files.World) (tree : Tree) (body : Body) → g.F.Files.stands c.args.files.now world tree
    → IsFileIn tree c.args.directory.now body → Sound tree → SoundCtx c.args.ctx.now
    → g.F.Files.is_resumable c.in_err-take_name.field-0.0 =
    λ world tree body stands at good now.
    let first = (rw c.in-Ok.is at c.in_ok-status.ensures.ok) world tree body stands at in
    let second = (rw c.in-Ok-2.is at c.in_ok-status-2.ensures.ok) world tree _ stands first.1 in
    let old = g.F.Files.stands c.args.files.now world in
    let tests = rmdir_tests c.args.name.now in
    let left = c.in-Ok-2.file in
    let named = there old tree c.args.ctx.now c.args.name.now c.args.directory.now body tests c.in-Ok.found first left second in
    c.in_err-take_name.ensures.resumable world tree named.0 stands named.2
    (can_be_taken old tree c.args.ctx.now c.args.name.now c.args.directory.now body tests c.in-Ok.found first left second good now at) in
    subst (λ r. IfErr r (λ suspend. (world : g.F.Files.World) (tree : Tree) (body : Body)
    → g.F.Files.stands c.args.files.now world tree → IsFileIn tree c.args.directory.now body → Sound tree
    → SoundCtx c.args.ctx.now → g.F.Files.is_resumable suspend)) (sym same) rest

pub returns-clause-ok : goal.returns-clause-ok
returns-clause-ok g c = λ world tree body stands at good now.
    let first = (rw c.in-Ok.is at c.in_ok-status.ensures.ok) world tree body stands at in
    let second = (rw c.in-Ok-2.is at c.in_ok-status-2.ensures.ok) world tree _ stands first.1 in
    let new = g.F.Files.stands c.take_name.new.files world in
    let tests = rmdir_tests c.args.name.now in
    let left = c.in-Ok-2.file in
    let named = there new tree c.args.ctx.now c.args.name.now c.args.directory.now body tests c.in-Ok.found first left second in
    taken new tree c.args.ctx.now c.args.name.now c.args.directory.now body tests c.in-Ok.found first left second
    (c.in_ok-take_name.ensures.ok world tree named.0 stands named.2
    (can_be_taken new tree c.args.ctx.now c.args.name.now c.args.directory.now body tests c.in-Ok.found first left second good now at))
