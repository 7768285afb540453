use Rattle.std.proofs.Common.{ap, cond, sym, subst, ◌∙◌, ◌∷◌, [], None, Some}
use Rattle.std.proofs.lemmas.Result.{IfErr-weaker, IfOk-weaker}
use Rattle.nfs_types.specs.declared.status.Status.TheVariants as status
use Rattle.nfs_spec.proofs.ProceduresLemmas.Numbers.{new_number}
use Rattle.nfs_spec.specs.Procedures.Create.{create_at}
use Rattle.nfs_spec.specs.Procedures.FirstTests.{may_change, dentry_tests}
use Rattle.nfs_spec.specs.Procedures.Places.{is_own_name, named_file}
use Rattle.procs_files.specs.Heads.{IsFound, node_of}
use Rattle.procs_updates.proofs.CreatesLemmas.BlankFiles.{new_name}
use Rattle.procs_updates.proofs.CreatesLemmas.Refused.{is_placed, not_refused, refused_first, refused_then}
use Rattle.procs_updates.specs.Creates.Making.{IsMade}
use Rattle.procs_updates.proofs.creates.creation.create_in.Goals as goal

pub returns-in-Err-clause-ok : goal.returns-in-Err-clause-ok
returns-in-Err-clause-ok g c = λ world tree inside stands here good now bytes fits.
    let directory = node_of c.args.directory.now inside in
    let at = c.args.directory.now.number in
    let ctx = c.args.ctx.now in
    let name = c.args.name.now in
    refused_first (g.F.Files.stands c.args.files.now world) tree
    (dentry_tests (may_change ctx.credential directory) directory name) ((is_own_name name, status.Exist) ∷ [])
    (λ new. create_at tree ctx c.args.how.now new at directory name (named_file tree directory name))
    c.in-Err.status ((rw c.in-Err.is at c.in_ok-status.ensures.ok) world tree inside stands here) stands

pub returns-then-is_own_name-clause-ok : goal.returns-then-is_own_name-clause-ok
returns-then-is_own_name-clause-ok g c = λ world tree inside stands here good now bytes fits.
    let directory = node_of c.args.directory.now inside in
    let at = c.args.directory.now.number in
    let ctx = c.args.ctx.now in
    let name = c.args.name.now in
    let first = (rw c.in-Ok.is at c.in_ok-status.ensures.ok) world tree inside stands here in
    refused_then (g.F.Files.stands c.args.files.now world) tree
    (dentry_tests (may_change ctx.credential directory) directory name) ((is_own_name name, status.Exist) ∷ [])
    (λ new. create_at tree ctx c.args.how.now new at directory name (named_file tree directory name))
    status.Exist first.0 (ap (λ b. cond b (Some status.Exist) None) (sym c.is_own_name.ensures ∙ c.if-is_own_name.true))
    stands

pub returns-in-None-clause-resumable : goal.returns-in-None-clause-resumable
returns-in-None-clause-resumable g c =
    IfErr-weaker c.create_new.result _ _ (λ suspend then world tree inside stands here good now bytes fits.
    let directory = node_of c.args.directory.now inside in
    let ctx = c.args.ctx.now in
    let name = c.args.name.now in
    let first = (rw c.in-Ok.is at c.in_ok-status.ensures.ok) world tree inside stands here in
    let own = sym c.is_own_name.ensures ∙ c.if-is_own_name.false in
    let absent = subst (IsFound tree (named_file tree directory name)) c.in-None.is first.1 in
    let named = new_name tree directory name
    (is_placed (may_change ctx.credential directory) directory name first.0 own) absent bytes in
    then world tree inside stands here good now named fits)
    c.create_new.ensures.resumable

pub returns-in-None-clause-ok : goal.returns-in-None-clause-ok
returns-in-None-clause-ok g c =
    IfOk-weaker c.create_new.result _ _ (λ r then world tree inside stands here good now bytes fits.
    let directory = node_of c.args.directory.now inside in
    let at = c.args.directory.now.number in
    let ctx = c.args.ctx.now in
    let name = c.args.name.now in
    let first = (rw c.in-Ok.is at c.in_ok-status.ensures.ok) world tree inside stands here in
    let own = sym c.is_own_name.ensures ∙ c.if-is_own_name.false in
    let absent = subst (IsFound tree (named_file tree directory name)) c.in-None.is first.1 in
    let named = new_name tree directory name
    (is_placed (may_change ctx.credential directory) directory name first.0 own) absent bytes in
    let last = g.F.Files.stands c.create_new.new.files world in
    not_refused last tree
    (dentry_tests (may_change ctx.credential directory) directory name) ((is_own_name name, status.Exist) ∷ [])
    (λ new. create_at tree ctx c.args.how.now new at directory name (named_file tree directory name))
    r first.0 (ap (λ b. cond b (Some status.Exist) None) own)
    (subst (λ f. IsMade last tree (λ new. create_at tree ctx c.args.how.now new at directory name f) r) (sym absent)
    (then world tree inside stands here good now named fits)))
    c.create_new.ensures.ok

pub returns-in-Some-clause-ok : goal.returns-in-Some-clause-ok
returns-in-Some-clause-ok g c =
    IfOk-weaker c.create_over.result _ _ (λ r then world tree inside stands here good now bytes fits.
    let directory = node_of c.args.directory.now inside in
    let at = c.args.directory.now.number in
    let ctx = c.args.ctx.now in
    let name = c.args.name.now in
    let first = (rw c.in-Ok.is at c.in_ok-status.ensures.ok) world tree inside stands here in
    let own = sym c.is_own_name.ensures ∙ c.if-is_own_name.false in
    let there = subst (IsFound tree (named_file tree directory name)) c.in-Some.is first.1 in
    let number = new_number tree in
    let last = g.F.Files.stands c.create_over.new.files world in
    not_refused last tree
    (dentry_tests (may_change ctx.credential directory) directory name) ((is_own_name name, status.Exist) ∷ [])
    (λ new. create_at tree ctx c.args.how.now new at directory name (named_file tree directory name))
    r first.0 (ap (λ b. cond b (Some status.Exist) None) own)
    (subst (λ f. IsMade last tree (λ new. create_at tree ctx c.args.how.now new at directory name f) r) (sym there.1)
    (record {
      new = number.new;
      is_new = number.is;
      done = then world tree there.0 stands there.2 good now fits;
    })))
    c.create_over.ensures.ok
