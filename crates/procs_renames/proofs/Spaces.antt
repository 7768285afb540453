-- The blocks that a move needs.
use Rattle.std.proofs.Common.{◌≡◌, ◌≢◌, ℕ, ◌-◌, refl, Bool, true, false}
use Rattle.std.proofs.Common.{cond, List, Some, arith}
use Rattle.nfs_types.specs.declared.ctx.Moment.{Moment}
use Rattle.nfs_spec.specs.Model.Cost.{cost}
use Rattle.nfs_spec.specs.Model.Node.{Node, Body, DirentValue, Regular, Directory, Link}
use Rattle.nfs_spec.specs.Model.Tree.{Tree, cost_at, need, node_at, with_node}
use Rattle.nfs_spec.proofs.ProceduresLemmas.Lacking.{gone_change, put_change}
use Rattle.nfs_spec.specs.Procedures.Changes.{is_last_name, unnamed, with_dirent, without_dirent, without_node}
use Rattle.procs_names.proofs.LinksLemmas.Needs.{added, need_put}

pub same_cost_departed : (name : List ℕ) (body : Body) → cost (without_dirent name body) ≡ cost body
same_cost_departed name (Regular bytes mapped) = refl
same_cost_departed name (Directory named span parent) = refl
same_cost_departed name (Link target) = refl

pub same_more_departed : (other : List ℕ) (body : Body) (name : List ℕ) (dirent : DirentValue)
    → cost (with_dirent name dirent (without_dirent other body)) ≡ cost (with_dirent name dirent body)
same_more_departed other (Regular bytes mapped) name dirent = refl
same_more_departed other (Directory named span parent) name dirent = refl
same_more_departed other (Link target) name dirent = refl

module _ (tree middle : Tree) (none : need tree middle ≡ 0) (number : ℕ) (old : Node)
    (was : node_at middle number ≡ Some old) where
  -- a file that costs what it cost
  pub same_need : (new : Node) → cost new.body ≡ cost old.body → cost_at (node_at tree number) ≡ cost old.body
      → need tree (with_node middle number new) ≡ 0
  same_need new same before =
      let put = need_put tree middle number (Some old) new was in
      omega (arith, put, same, before, none)

  -- a file that is gone
  pub gone_need : need tree (without_node middle number) ≡ 0
  gone_need =
      let sum = (gone_change middle number (Some old) was).sums (added tree) in
      omega (arith, sum, none)

  -- a file that lost a name
  pub unnamed_need : (moment : Moment) → cost_at (node_at tree number) ≡ cost old.body
      → need tree (unnamed middle moment number old) ≡ 0
  unnamed_need moment before = by (is_last_name old)
    where
      less : Node
      less = record old { nlink = old.nlink - 1; ctime = moment }

      by : (b : Bool) → need tree (cond b (without_node middle number) (with_node middle number less)) ≡ 0
      by true = gone_need
      by false = same_need less refl before

-- another file stays
pub unnamed_there : (tree : Tree) (moment : Moment) (number : ℕ) (old : Node) → node_at tree number ≡ Some old
    → (q : ℕ) → q ≢ number → node_at (unnamed tree moment number old) q ≡ node_at tree q
unnamed_there tree moment number old was q apart = by (is_last_name old)
  where
    less : Node
    less = record old { nlink = old.nlink - 1; ctime = moment }

    by : (b : Bool) → node_at (cond b (without_node tree number) (with_node tree number less)) q ≡ node_at tree q
    by true = (gone_change tree number (Some old) was).there q apart
    by false = (put_change tree number (Some old) less was).there q apart
