use Rattle.std.proofs.Common.{rules, ap, ◌∙◌}
use Rattle.procs_files.specs.Heads.{listed_from}
use Rattle.procs_queries.specs.Listings.Dots.{dots_behind}
use Rattle.procs_queries.specs.Listings.Gathered.{one_more, with_all}
use Rattle.procs_queries.proofs.ListingsLemmas.Parts.{begins, ends, ends_full, goes_on}
use Rattle.procs_queries.proofs.listings.listed_names.gathered.Goals as goal

pub names-init : goal.names-init
names-init g c = λ world tree body stands is.
    ap (λ from. with_all c.args.besides c.with_dots.new.gathering (listed_from from body)) c.saturating_sub-from.ensures
    ∙ begins c.args.besides c.args.names_budget c.args.budget c.args.cookie c.args.directory.now body is.fits.parent
    c.with_dots.new.gathering
    (c.in_ok-with_dots.ensures
    ∙ ap (λ gathered. with_all c.args.besides gathered
    (dots_behind c.args.cookie c.args.directory.now.number c.args.directory.now.parent)) c.new-gathering.ensures)

pub names-preserved : goal.names-preserved
names-preserved g c = λ world tree body stands is.
    goes_on c.args.besides c.args.names_budget c.args.budget c.args.cookie c.args.directory.now body c.names.from
    c.names.gathering (c.names.invariant world tree body stands is) c.in-Some.found
    ((rw c.in-Some.is at c.in_ok-found.ensures.ok) world tree body stands is) c.add.new.self
    (c.in_ok-add-in-Some.ensures ∙ ap (one_more c.args.besides c.names.gathering) c.listed.ensures.listed_item)

pub returns-in-None-clause-ok : goal.returns-in-None-clause-ok
returns-in-None-clause-ok g c = λ world tree body stands is.
    ends c.args.besides c.args.names_budget c.args.budget c.args.cookie c.args.directory.now body c.names.from
    c.names.gathering (c.names.invariant world tree body stands is)
    ((rw c.in-None.is at c.in_ok-found.ensures.ok) world tree body stands is)

pub returns-clause-ok : goal.returns-clause-ok
returns-clause-ok g c = λ world tree body stands is.
    ends_full c.args.besides c.args.names_budget c.args.budget c.args.cookie c.args.directory.now body c.names.from
    c.names.gathering (c.names.invariant world tree body stands is) (search rules)
