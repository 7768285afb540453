-- The blocks that a change of names needs.
use Rattle.std.proofs.Common.{◌≡◌, ℕ, suc, ◌+◌, ◌-◌, ◌*◌, ◌/◌, sym, ap, ◌∙◌, Bool, true}
use Rattle.std.proofs.Common.{not, max, nat_le, nat_lt, List, Option, arith}
use Rattle.std.proofs.lemmas.Bool.Decides.{nat_tests}
use Rattle.base.specs.declared.TheConstants.{BLOCK_BYTES, SLOTS_PER_BLOCK}
use Rattle.nfs_spec.specs.Model.Cost.{cost}
use Rattle.nfs_spec.specs.Model.Names.{is_directory}
use Rattle.nfs_spec.specs.Model.Node.{Node, Body, DirentValue, Regular, Directory, Link}
use Rattle.nfs_spec.specs.Model.Tree.{Tree, cost_at, free, need, node_at, with_node}
use Rattle.nfs_spec.proofs.ProceduresLemmas.Lacking.{put_change}
use Rattle.nfs_spec.proofs.ProceduresLemmas.Parts.{part}
use Rattle.nfs_spec.specs.Procedures.Changes.{lacks_space, with_dirent}
use Rattle.procs_files.specs.Writable.{adds}
use Rattle.procs_files.specs.Heads.{IsBodyOf}
use Rattle.procs_files.specs.declared.inode_attributes.InodeAttributes.{InodeAttributes}
use Rattle.procs_names.specs.Links.Rooms.{dirent_adds, span_cost}

-- what a file of this number adds to a tree
abbrev pub added : Tree → ℕ × Node → ℕ
added tree file = cost file.1.body - cost_at (node_at tree file.0)

-- one file more is changed
pub need_put : (tree middle : Tree) (number : ℕ) (old : Option Node) (new : Node) → node_at middle number ≡ old
    → need tree (with_node middle number new) + part (added tree) number old
    ≡ need tree middle + (cost new.body - cost_at (node_at tree number))
need_put tree middle number old new was = (put_change middle number old new was).sums (added tree)

whole_blocks : (span : ℕ) → BLOCK_BYTES * span / BLOCK_BYTES ≡ span
whole_blocks span = omega arith

-- what a name adds to a directory, by its size
pub adds_is : (inode_attributes : InodeAttributes) (body : Body) (name : List ℕ) (dirent : DirentValue) → IsBodyOf inode_attributes body
    → is_directory body ≡ true → adds (with_dirent name dirent body) body ≡ dirent_adds inode_attributes.size dirent.slot
adds_is inode_attributes (Regular bytes mapped) name dirent fits dir = cc
adds_is inode_attributes (Directory named span parent) name dirent fits dir =
    ap (λ k. span_cost (max k (suc (dirent.slot / SLOTS_PER_BLOCK))) - span_cost k)
    (sym (whole_blocks span) ∙ ap (λ s. s / BLOCK_BYTES) fits.size)
adds_is inode_attributes (Link target) name dirent fits dir = cc

pub enough : (tree next : Tree) (blocks : ℕ) (has : Bool) → has ≡ nat_le blocks (free tree)
    → need tree next ≡ blocks → lacks_space tree next ≡ not has
enough tree next blocks has is needs =
    ap (nat_lt (free tree)) needs ∙ other blocks (free tree) ∙ ap not (sym is)
  where
    other : (a b : ℕ) → nat_lt b a ≡ not (nat_le a b)
    other a b = grind (arith, nat_tests)
