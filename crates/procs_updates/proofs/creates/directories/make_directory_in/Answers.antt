use Rattle.std.proofs.Common.{sym, subst, ◌∙◌, None}
use Rattle.std.proofs.lemmas.Result.{IfErr-weaker, IfOk-weaker}
use Rattle.std.specs.FinMap as map
use Rattle.base.specs.declared.TheConstants.{NEW_DIRECTORY_MODE}
use Rattle.nfs_spec.specs.Model.Node.{Directory}
use Rattle.nfs_spec.specs.Procedures.FirstTests.{may_change, dentry_tests}
use Rattle.nfs_spec.specs.Procedures.Fresh.{fresh, make, without_size}
use Rattle.nfs_spec.specs.Procedures.Places.{named_file}
use Rattle.procs_files.specs.Heads.{node_of}
use Rattle.procs_updates.proofs.CreatesLemmas.MadeDirectories.{can_make_directory}
use Rattle.procs_updates.proofs.CreatesLemmas.Refused.{not_refused, refused_first, refused_then}
use Rattle.procs_updates.specs.Creates.Making.{CanMake, IsMade}
use Rattle.nfs_spec.specs.Procedures.MkDir.{mkdir_tests}
use Rattle.procs_updates.proofs.creates.directories.make_directory_in.Goals as goal

pub returns-in-Err-clause-ok : goal.returns-in-Err-clause-ok
returns-in-Err-clause-ok g c = λ world tree inside stands here good now bytes fits.
    let directory = node_of c.args.directory.now inside in
    let at = c.args.directory.now.number in
    refused_first (g.F.Files.stands c.args.files.now world) tree
    (dentry_tests (may_change c.args.ctx.now.credential directory) directory c.args.name.now)
    (mkdir_tests c.args.name.now directory (named_file tree directory c.args.name.now))
    (λ new. make tree c.args.ctx.now new at directory c.args.name.now (without_size c.args.wanted.now)
    (fresh c.args.ctx.now NEW_DIRECTORY_MODE None (Directory map.empty 0 at)))
    c.in-Err.status ((rw c.in-Err.is at c.in_ok-status.ensures.ok) world tree inside stands here) stands

pub returns-in-Some-clause-ok : goal.returns-in-Some-clause-ok
returns-in-Some-clause-ok g c = λ world tree inside stands here good now bytes fits.
    let directory = node_of c.args.directory.now inside in
    let at = c.args.directory.now.number in
    let first = (rw c.in-Ok.is at c.in_ok-status.ensures.ok) world tree inside stands here in
    refused_then (g.F.Files.stands c.args.files.now world) tree
    (dentry_tests (may_change c.args.ctx.now.credential directory) directory c.args.name.now)
    (mkdir_tests c.args.name.now directory (named_file tree directory c.args.name.now))
    (λ new. make tree c.args.ctx.now new at directory c.args.name.now (without_size c.args.wanted.now)
    (fresh c.args.ctx.now NEW_DIRECTORY_MODE None (Directory map.empty 0 at)))
    c.in-Some.status first.0 (sym (c.directory_refusal.ensures tree _ inside first.1) ∙ c.in-Some.is) stands

pub returns-clause-resumable : goal.returns-clause-resumable
returns-clause-resumable g c =
    IfErr-weaker c.make.result _ _ (λ suspend then world tree inside stands here good now bytes fits.
    let directory = node_of c.args.directory.now inside in
    let at = c.args.directory.now.number in
    let first = (rw c.in-Ok.is at c.in_ok-status.ensures.ok) world tree inside stands here in
    let second = sym (c.directory_refusal.ensures tree _ inside first.1) ∙ c.in_default.is in
    then world tree inside NEW_DIRECTORY_MODE None (Directory map.empty 0 at) stands here good now
    (c.blank_directory-blank.ensures _)
    (subst (λ w. CanMake tree at directory c.args.name.now w NEW_DIRECTORY_MODE None (Directory map.empty 0 at))
    (sym c.without_size-wanted.ensures)
    (can_make_directory tree at directory c.args.name.now c.args.wanted.now
    (may_change c.args.ctx.now.credential directory) first.0 second bytes fits)))
    c.make.ensures.resumable

pub returns-clause-ok : goal.returns-clause-ok
returns-clause-ok g c =
    IfOk-weaker c.make.result _ _ (λ r then world tree inside stands here good now bytes fits.
    let directory = node_of c.args.directory.now inside in
    let at = c.args.directory.now.number in
    let first = (rw c.in-Ok.is at c.in_ok-status.ensures.ok) world tree inside stands here in
    let second = sym (c.directory_refusal.ensures tree _ inside first.1) ∙ c.in_default.is in
    let new = g.F.Files.stands c.make.new.files world in
    not_refused new tree
    (dentry_tests (may_change c.args.ctx.now.credential directory) directory c.args.name.now)
    (mkdir_tests c.args.name.now directory (named_file tree directory c.args.name.now))
    (λ new. make tree c.args.ctx.now new at directory c.args.name.now (without_size c.args.wanted.now)
    (fresh c.args.ctx.now NEW_DIRECTORY_MODE None (Directory map.empty 0 at)))
    r first.0 second
    (subst (λ w. IsMade new tree (λ new. make tree c.args.ctx.now new at directory c.args.name.now w
    (fresh c.args.ctx.now NEW_DIRECTORY_MODE None (Directory map.empty 0 at))) r) c.without_size-wanted.ensures
    (then world tree inside NEW_DIRECTORY_MODE None (Directory map.empty 0 at) stands here good now
    (c.blank_directory-blank.ensures _)
    (subst (λ w. CanMake tree at directory c.args.name.now w NEW_DIRECTORY_MODE None (Directory map.empty 0 at))
    (sym c.without_size-wanted.ensures)
    (can_make_directory tree at directory c.args.name.now c.args.wanted.now
    (may_change c.args.ctx.now.credential directory) first.0 second bytes fits)))))
    c.make.ensures.ok
