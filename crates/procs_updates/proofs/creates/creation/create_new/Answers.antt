use Rattle.std.proofs.Common.{sym, subst, None, Some, arith}
use Rattle.std.proofs.lemmas.Result.{IfErr-weaker, IfOk-weaker}
use Rattle.base.specs.declared.TheConstants.{EXCLUSIVE_MODE, NEW_FILE_MODE}
use Rattle.nfs_types.specs.Fits.{CreateHowFits}
use Rattle.nfs_spec.specs.Procedures.Create.{create_new, no_bytes}
use Rattle.nfs_spec.specs.Procedures.Fresh.{fresh, make, nothing_given}
use Rattle.procs_files.specs.Heads.{node_of}
use Rattle.procs_updates.proofs.CreatesLemmas.BlankFiles.{can_make_file, nothing_fits}
use Rattle.procs_updates.specs.Creates.Making.{CanMake, IsMade}
use Rattle.procs_updates.proofs.creates.creation.create_new.Goals as goal

pub returns-in-Unchecked-clause-resumable : goal.returns-in-Unchecked-clause-resumable
returns-in-Unchecked-clause-resumable g c =
    IfErr-weaker c.make.result _ _ (λ suspend then world tree inside stands here good now named fits.
    let directory = node_of c.args.directory.now inside in
    then world tree inside NEW_FILE_MODE None no_bytes stands here good now (c.blank_file-blank.ensures _)
    (can_make_file tree c.args.directory.now.number directory c.args.name.now c.in-Unchecked.wanted NEW_FILE_MODE None
    named (subst CreateHowFits c.in-Unchecked.is fits) (omega arith) tt))
    c.make.ensures.resumable

pub returns-in-Unchecked-clause-ok : goal.returns-in-Unchecked-clause-ok
returns-in-Unchecked-clause-ok g c =
    IfOk-weaker c.make.result _ _ (λ r then world tree inside stands here good now named fits.
    let directory = node_of c.args.directory.now inside in
    let at = c.args.directory.now.number in
    subst (λ h. IsMade (g.F.Files.stands c.make.new.files world) tree
    (λ new. create_new tree c.args.ctx.now new at directory c.args.name.now h) r) (sym c.in-Unchecked.is)
    (then world tree inside NEW_FILE_MODE None no_bytes stands here good now (c.blank_file-blank.ensures _)
    (can_make_file tree at directory c.args.name.now c.in-Unchecked.wanted NEW_FILE_MODE None
    named (subst CreateHowFits c.in-Unchecked.is fits) (omega arith) tt)))
    c.make.ensures.ok

pub returns-in-Guarded-clause-resumable : goal.returns-in-Guarded-clause-resumable
returns-in-Guarded-clause-resumable g c =
    IfErr-weaker c.make-in-Guarded.result _ _ (λ suspend then world tree inside stands here good now named fits.
    let directory = node_of c.args.directory.now inside in
    then world tree inside NEW_FILE_MODE None no_bytes stands here good now (c.blank_file-blank-in-Guarded.ensures _)
    (can_make_file tree c.args.directory.now.number directory c.args.name.now c.in-Guarded.wanted NEW_FILE_MODE None
    named (subst CreateHowFits c.in-Guarded.is fits) (omega arith) tt))
    c.make-in-Guarded.ensures.resumable

pub returns-in-Guarded-clause-ok : goal.returns-in-Guarded-clause-ok
returns-in-Guarded-clause-ok g c =
    IfOk-weaker c.make-in-Guarded.result _ _ (λ r then world tree inside stands here good now named fits.
    let directory = node_of c.args.directory.now inside in
    let at = c.args.directory.now.number in
    subst (λ h. IsMade (g.F.Files.stands c.make-in-Guarded.new.files world) tree
    (λ new. create_new tree c.args.ctx.now new at directory c.args.name.now h) r) (sym c.in-Guarded.is)
    (then world tree inside NEW_FILE_MODE None no_bytes stands here good now (c.blank_file-blank-in-Guarded.ensures _)
    (can_make_file tree at directory c.args.name.now c.in-Guarded.wanted NEW_FILE_MODE None
    named (subst CreateHowFits c.in-Guarded.is fits) (omega arith) tt)))
    c.make-in-Guarded.ensures.ok

pub returns-in-Exclusive-clause-resumable : goal.returns-in-Exclusive-clause-resumable
returns-in-Exclusive-clause-resumable g c =
    IfErr-weaker c.make-in-Exclusive.result _ _ (λ suspend then world tree inside stands here good now named fits.
    let directory = node_of c.args.directory.now inside in
    let at = c.args.directory.now.number in
    then world tree inside EXCLUSIVE_MODE (Some c.in-Exclusive.verifier) no_bytes stands here good now
    (c.blank_file-blank-in-Exclusive.ensures _)
    (subst (λ w. CanMake tree at directory c.args.name.now w EXCLUSIVE_MODE (Some c.in-Exclusive.verifier) no_bytes)
    (sym c.nothing_given.ensures)
    (can_make_file tree at directory c.args.name.now nothing_given EXCLUSIVE_MODE (Some c.in-Exclusive.verifier)
    named nothing_fits (omega arith) (subst CreateHowFits c.in-Exclusive.is fits))))
    c.make-in-Exclusive.ensures.resumable

pub returns-in-Exclusive-clause-ok : goal.returns-in-Exclusive-clause-ok
returns-in-Exclusive-clause-ok g c =
    IfOk-weaker c.make-in-Exclusive.result _ _ (λ r then world tree inside stands here good now named fits.
    let directory = node_of c.args.directory.now inside in
    let at = c.args.directory.now.number in
    let last = g.F.Files.stands c.make-in-Exclusive.new.files world in
    subst (λ h. IsMade last tree (λ new. create_new tree c.args.ctx.now new at directory c.args.name.now h) r)
    (sym c.in-Exclusive.is)
    (subst (λ w. IsMade last tree (λ new. make tree c.args.ctx.now new at directory c.args.name.now w
    (fresh c.args.ctx.now EXCLUSIVE_MODE (Some c.in-Exclusive.verifier) no_bytes)) r) c.nothing_given.ensures
    (then world tree inside EXCLUSIVE_MODE (Some c.in-Exclusive.verifier) no_bytes stands here good now
    (c.blank_file-blank-in-Exclusive.ensures _)
    (subst (λ w. CanMake tree at directory c.args.name.now w EXCLUSIVE_MODE (Some c.in-Exclusive.verifier) no_bytes)
    (sym c.nothing_given.ensures)
    (can_make_file tree at directory c.args.name.now nothing_given EXCLUSIVE_MODE (Some c.in-Exclusive.verifier)
    named nothing_fits (omega arith) (subst CreateHowFits c.in-Exclusive.is fits))))))
    c.make-in-Exclusive.ensures.ok
