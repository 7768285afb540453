use Rattle.std.proofs.Common.{ap, ◌∙◌}
use Rattle.std.proofs.lemmas.Result.{IfOk-weaker}
use Rattle.base.specs.declared.TheConstants.{LISTED_ITEM_PLUS_BYTES}
use Rattle.nfs_spec.specs.Procedures.Listing.{listed_behind}
use Rattle.procs_queries.specs.Listings.Gathered.{nothing, with_all}
use Rattle.procs_queries.proofs.ListingsLemmas.Lists.{listed_plus}
use Rattle.procs_queries.proofs.listings.plus.list_plus.Goals as goal

pub returns-clause-ok : goal.returns-clause-ok
returns-clause-ok g c =
    IfOk-weaker c.listed_plus.result _ _ (λ r query_reply world tree body stands is.
    query_reply world tree stands
    ∙ listed_plus c.args.caller.now c.args.cookie c.args.verifier.now c.args.count c.args.directory.now body
    is.fits.kind c.early_refusal.result c.early_refusal.ensures c.in_default.is c.in_ok-gathering.gathering tree
    c.args.names_count
    (c.in_ok-gathering.ensures.ok world tree body stands is
    ∙ ap (λ budget. with_all LISTED_ITEM_PLUS_BYTES (nothing c.args.names_count budget)
    (listed_behind c.args.cookie c.args.directory.now.number body)) c.listing_budget-budget.ensures))
    c.listed_plus.ensures.ok
