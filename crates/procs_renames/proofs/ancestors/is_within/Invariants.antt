use Rattle.std.proofs.Common.{◌≡◌, ◌-◌, nat_eq}
use Rattle.nfs_spec.specs.Model.Names.{ancestor}
use Rattle.nfs_spec.specs.Model.Tree.{Tree}
use Rattle.nfs_spec.specs.Procedures.Rename.{is_within}
use Rattle.procs_renames.proofs.Parents.{any_in}
use Rattle.procs_renames.proofs.ancestors.is_within.Given as goal

abbrev pub invariant-steps : goal.invariant-steps
invariant-steps g l = (world : g.F.Files.World) (tree : Tree) → g.F.Files.stands l.files world tree
    → (l.at ≡ ancestor tree l.steps l.number)
    × (is_within tree l.file l.number
    ≡ any_in (λ steps. nat_eq (ancestor tree steps l.number) l.file) l.steps tree.geometry.inodes)

abbrev pub decreases-steps : goal.decreases-steps
decreases-steps g l = l.end - l.steps
