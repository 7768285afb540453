use Rattle.std.proofs.Common.{◌≡◌, map, take}
use Rattle.nfs_spec.specs.Model.Tree.{Tree}
use Rattle.nfs_spec.specs.Procedures.ReadDirPlus.{plus}
use Rattle.procs_queries.proofs.listings.plus.with_files.Given as goal

abbrev pub invariant-entries : goal.invariant-entries
invariant-entries g l =
    (world : g.F.Files.World) (tree : Tree) → g.F.Files.stands l.files world tree
    → l.all.items ≡ map (plus tree) (take l.listed_item-index l.entries)
