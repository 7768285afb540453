-- A SETATTR makes no stamp with a later boot.
use Rattle.std.proofs.Common.{◌≡◌, ℕ, ◌≤◌, sym, subst, refl, List, Option, Some, None, Result, Ok, Err}
use Rattle.nfs_types.specs.declared.attributes.NewAttributes.{NewAttributes}
use Rattle.nfs_types.specs.declared.attributes.WeakCacheData.{WeakCacheData}
use Rattle.nfs_types.specs.declared.ctx.Ctx.{Ctx}
use Rattle.nfs_types.specs.declared.ctx.Moment.{Moment}
use Rattle.nfs_types.specs.declared.status.Status.{Status}
use Rattle.nfs_spec.specs.Model.Node.{Node}
use Rattle.nfs_spec.specs.Model.Tree.{Tree, node_at}
use Rattle.nfs_spec.specs.Model.Find.{find_file}
use Rattle.nfs_spec.specs.Model.SetAttr.{SetAttrStep, SetOrLeft, SetFound, with_attributes, refusal}
use Rattle.nfs_spec.specs.Model.Sound.{IsMadeBy}
use Rattle.nfs_spec.proofs.ModelLemmas.Answered.{found-stands}
use Rattle.nfs_spec.proofs.ModelLemmas.Attributed.{shape}
use Rattle.nfs_spec.proofs.ModelLemmas.Replaced.{before}

module _ (boot : ℕ) (tree next : Tree) (ctx : Ctx) (handle : List ℕ) (wanted : NewAttributes)
    (guard : Option Moment) (outcome : Result (Unit {0}) Status) (file_attributes : WeakCacheData)
    (made : IsMadeBy boot tree) where
  set_or_left : (number : ℕ) (node : Node) (test : Option Status) → node_at tree number ≡ Some node
      → SetOrLeft tree number node (with_attributes ctx.moment wanted node) test outcome file_attributes next
      → IsMadeBy boot next
  set_or_left number node (Some status) was left = subst (IsMadeBy boot) (sym left.unchanged) made
  set_or_left number node None was set =
      subst (IsMadeBy boot) (sym set.changed)
      (λ q one is.
      let b = before tree number node (with_attributes ctx.moment wanted node) was
      (shape ctx.moment wanted node) q one is in
      subst (λ stamp. stamp.boot ≤ boot) (sym b.shape_is.stamp) (made q b.node_before b.before_is))

  set_found : (found : Result (ℕ × Node) Status) → find_file tree handle ≡ found
      → SetFound tree ctx wanted guard found outcome file_attributes next → IsMadeBy boot next
  set_found (Err status) is refused = subst (IsMadeBy boot) (sym refused.unchanged) made
  set_found (Ok found) is set =
      set_or_left found.0 found.1 (refusal ctx wanted guard found.1) (found-stands tree handle found is) set

pub no_later : (boot : ℕ) (tree next : Tree) (ctx : Ctx) (handle : List ℕ) (wanted : NewAttributes)
    (guard : Option Moment) (outcome : Result (Unit {0}) Status) (file_attributes : WeakCacheData) → IsMadeBy boot tree
    → SetAttrStep tree ctx handle wanted guard outcome file_attributes next → IsMadeBy boot next
no_later boot tree next ctx handle wanted guard outcome file_attributes made step =
    set_found boot tree next ctx handle wanted guard outcome file_attributes made (find_file tree handle) refl step
