use Rattle.std.proofs.Common.{ap, ◌∙◌}
use Rattle.base.specs.declared.TheConstants.{LISTED_ITEM_BYTES}
use Rattle.nfs_spec.specs.Procedures.Listing.{listed_behind}
use Rattle.procs_queries.specs.Listings.Gathered.{nothing, with_all}
use Rattle.procs_queries.proofs.ListingsLemmas.Lists.{listed}
use Rattle.procs_queries.proofs.listings.read_dir.list.Goals as goal

pub returns-clause-ok : goal.returns-clause-ok
returns-clause-ok g c = λ world tree body stands is.
    c.listed.ensures
    ∙ listed c.args.caller.now c.args.cookie c.args.verifier.now c.args.count c.args.directory.now body is.fits.kind
    c.early_refusal.result c.early_refusal.ensures c.in_default.is c.in_ok-gathering.gathering
    (c.in_ok-gathering.ensures.ok world tree body stands is
    ∙ ap (λ budget. with_all LISTED_ITEM_BYTES (nothing budget budget)
    (listed_behind c.args.cookie c.args.directory.now.number body)) c.listing_budget-budget.ensures)
