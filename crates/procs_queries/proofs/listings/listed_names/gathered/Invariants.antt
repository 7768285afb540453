use Rattle.std.proofs.Common.{◌≡◌, ◌-◌, ◌^◌}
use Rattle.nfs_spec.specs.Model.Node.{Body}
use Rattle.nfs_spec.specs.Model.Tree.{Tree}
use Rattle.nfs_spec.specs.Procedures.Listing.{listed_behind}
use Rattle.procs_files.specs.Heads.{IsFileIn, listed_from}
use Rattle.procs_queries.specs.Listings.Gathered.{nothing, with_all}
use Rattle.procs_queries.proofs.listings.listed_names.gathered.Given as goal

-- what is gathered so far and what is left lead to what all would
abbrev pub invariant-names : goal.invariant-names
invariant-names g l =
    (world : g.F.Files.World) (tree : Tree) (body : Body) → g.F.Files.stands l.files world tree
    → IsFileIn tree l.directory body
    → with_all l.besides l.gathering (listed_from l.from body)
    ≡ with_all l.besides (nothing l.names_budget l.budget) (listed_behind l.cookie l.directory.number body)

abbrev pub decreases-names : goal.decreases-names
decreases-names g l = 2 ^ 32 - l.from
