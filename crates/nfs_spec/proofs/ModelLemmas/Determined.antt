-- A SETATTR has one reply and one next tree.
use Rattle.std.proofs.Common.{◌≡◌, sym, ◌∙◌, ℕ, Option, Some, None, Result, Ok, Err}
use Rattle.nfs_types.specs.declared.attributes.NewAttributes.{NewAttributes}
use Rattle.nfs_types.specs.declared.attributes.WeakCacheData.{WeakCacheData}
use Rattle.nfs_types.specs.declared.ctx.Ctx.{Ctx}
use Rattle.nfs_types.specs.declared.ctx.Moment.{Moment}
use Rattle.nfs_types.specs.declared.status.Status.{Status}
use Rattle.nfs_spec.specs.Model.Node.{Node}
use Rattle.nfs_spec.specs.Model.Tree.{Tree}
use Rattle.nfs_spec.specs.Model.SetAttr.{SetOrLeft, SetFound, with_attributes, refusal}

-- what two answers to one call have in common
pub record Same (outcome other : Result (Unit {0}) Status) (file_attributes tells : WeakCacheData)
    (next last : Tree) : Type 0 where
  pub outcome_is : outcome ≡ other
  pub attributes_same : file_attributes ≡ tells
  pub next_is : next ≡ last

set_or_left : (tree : Tree) (number : ℕ) (node new : Node) (status : Option Status)
    (outcome other : Result (Unit {0}) Status) (file_attributes tells : WeakCacheData) (next last : Tree)
    → SetOrLeft tree number node new status outcome file_attributes next
    → SetOrLeft tree number node new status other tells last → Same outcome other file_attributes tells next last
set_or_left tree number node new None outcome other file_attributes tells next last a b =
    record {
      outcome_is = a.done ∙ sym b.done;
      attributes_same = a.parts ∙ sym b.parts;
      next_is = a.changed ∙ sym b.changed;
    }
set_or_left tree number node new (Some status) outcome other file_attributes tells next last a b =
    record {
      outcome_is = a.refused ∙ sym b.refused;
      attributes_same = a.parts ∙ sym b.parts;
      next_is = a.unchanged ∙ sym b.unchanged;
    }

pub set_found : (tree : Tree) (ctx : Ctx) (wanted : NewAttributes) (guard : Option Moment)
    (found : Result (ℕ × Node) Status) (outcome other : Result (Unit {0}) Status) (file_attributes tells : WeakCacheData)
    (next last : Tree)
    → SetFound tree ctx wanted guard found outcome file_attributes next
    → SetFound tree ctx wanted guard found other tells last → Same outcome other file_attributes tells next last
set_found tree ctx wanted guard (Ok found) outcome other file_attributes tells next last a b =
    set_or_left tree found.0 found.1 (with_attributes ctx.moment wanted found.1)
    (refusal ctx wanted guard found.1) outcome other file_attributes tells next last a b
set_found tree ctx wanted guard (Err status) outcome other file_attributes tells next last a b =
    record {
      outcome_is = a.refused ∙ sym b.refused;
      attributes_same = a.parts ∙ sym b.parts;
      next_is = a.unchanged ∙ sym b.unchanged;
    }
