use Rattle.std.proofs.Common.{ap, ◌∙◌}
use Rattle.nfs_spec.specs.Model.SetAttr.{first_of_tests}
use Rattle.nfs_spec.specs.Procedures.FirstTests.{dentry_tests}
use Rattle.procs_files.specs.Heads.{bare}
use Rattle.procs_queries.proofs.QueriesLemmas.LookupFound.{lookup_found, missing}
use Rattle.procs_queries.proofs.queries.name_lookup.lookup_in.Goals as goal

pub returns-in_ok-lookup_result-in-Some-2-clause-ok : goal.returns-in_ok-lookup_result-in-Some-2-clause-ok
returns-in_ok-lookup_result-in-Some-2-clause-ok g c = λ world tree body stands at.
    lookup_found tree c.args.ctx.now.credential c.args.name.now c.args.directory.now body at c.dentry_refusal.result
    (c.dentry_refusal.ensures
    ∙ ap (λ a. first_of_tests (dentry_tests a (bare c.args.directory.now) c.args.name.now))
    c.may_search-allowed.ensures)
    c.in_default.is c.in-Some-2.inode_attributes ((rw c.in-Some-2.is at c.in_ok-inode_attributes.ensures.ok) world tree body stands at)
    c.in_ok-lookup_result-in-Some-2.field-0
    (λ body at. c.in_ok-lookup_result-in-Some-2.ensures body at.fits)

pub returns-in-None-clause-ok : goal.returns-in-None-clause-ok
returns-in-None-clause-ok g c = λ world tree body stands at.
    missing tree c.args.ctx.now.credential c.args.name.now c.args.directory.now body at c.dentry_refusal.result
    (c.dentry_refusal.ensures
    ∙ ap (λ a. first_of_tests (dentry_tests a (bare c.args.directory.now) c.args.name.now))
    c.may_search-allowed.ensures)
    c.in_default.is ((rw c.in-None.is at c.in_ok-inode_attributes.ensures.ok) world tree body stands at)
