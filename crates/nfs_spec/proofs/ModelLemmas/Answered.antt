-- A SETATTR has an answer, and keeps trees sound.
use Rattle.std.proofs.Common.{◌≡◌, ℕ, Bool, true, false, cond, ◌&&◌, nat_eq, List, length, ap, ◌∙◌, sym}
use Rattle.std.proofs.Common.{subst, refl, Option, Some, None, Result, Ok, Err}
use Rattle.nfs_types.specs.declared.attributes.NewAttributes.{NewAttributes}
use Rattle.nfs_types.specs.declared.attributes.WeakCacheData.{WeakCacheData}
use Rattle.nfs_types.specs.declared.ctx.Ctx.{Ctx}
use Rattle.nfs_types.specs.declared.ctx.Moment.{Moment}
use Rattle.base.specs.declared.TheConstants.{HANDLE_BYTES}
use Rattle.nfs_types.specs.declared.handle.Stamp.{Stamp}
use Rattle.nfs_types.specs.declared.status.Status.{Status}
use Rattle.nfs_types.specs.declared.status.Status.TheVariants as status
use Rattle.nfs_types.specs.Fits.{NewAttributesFit}
use Rattle.nfs_spec.specs.Model.Node.{Node}
use Rattle.nfs_spec.specs.Model.Tree.{Tree, node_at, with_node}
use Rattle.nfs_spec.specs.Model.Attributes.{change_of, untold}
use Rattle.nfs_spec.specs.Model.Find.{find_file, stamped, same_stamp, is_number, number_in, stamp_in}
use Rattle.nfs_spec.specs.Model.SetAttr.{SetAttrStep, SetOrLeft, SetFound, with_attributes, refusal}
use Rattle.nfs_spec.specs.Model.Sound.{Sound, SoundTime}
use Rattle.nfs_spec.proofs.ModelLemmas.Attributed.{shape, sound_node}
use Rattle.nfs_spec.proofs.ModelLemmas.Replaced as replaced

taken : (b : Bool) (x : Result (ℕ × Node) Status) (e : Status) (found : ℕ × Node)
    → cond b x (Err e) ≡ Ok found → x ≡ Ok found
taken true x e found is = is
taken false x e found is = cc

chosen : (b : Bool) (x : ℕ × Node) (e : Status) (found : ℕ × Node) → cond b (Ok x) (Err e) ≡ Ok found
    → x ≡ found
chosen true x e found is = cc
chosen false x e found is = cc

-- what a stamp tells of a number
record Stamped (number : ℕ) (at : Option Node) (found : ℕ × Node) : Type 0 where
  at_is : at ≡ Some found.1
  number_is : number ≡ found.0

stamped-is : (number : ℕ) (stamp : Stamp) (at : Option Node) (found : ℕ × Node)
    → stamped number stamp at ≡ Ok found → Stamped number at found
stamped-is number stamp None found is = cc
stamped-is number stamp (Some node) found is =
    let same : (number, node) ≡ found =
    chosen (same_stamp stamp node.stamp) (number, node) status.Stale found is in
    record { at_is = λ i. Some (same i).1; number_is = λ i. (same i).0 }

-- what a handle names stands in the tree under its number
pub found-stands : (tree : Tree) (handle : List ℕ) (found : ℕ × Node) → find_file tree handle ≡ Ok found
    → node_at tree found.0 ≡ Some found.1
found-stands tree handle found is =
    let in_tree =
    taken (nat_eq (length handle) HANDLE_BYTES && is_number tree (number_in handle))
    (stamped (number_in handle) (stamp_in handle) (node_at tree (number_in handle))) status.BadHandle
    found is in
    let s = stamped-is (number_in handle) (stamp_in handle) (node_at tree (number_in handle)) found in_tree in
    ap (node_at tree) (sym s.number_is) ∙ s.at_is

module _ (tree next : Tree) (ctx : Ctx) (handle : List ℕ) (wanted : NewAttributes) (guard : Option Moment)
    (outcome : Result (Unit {0}) Status) (file_attributes : WeakCacheData) (good : Sound tree)
    (now : SoundTime ctx.moment) (fits : NewAttributesFit wanted) where
  set_or_left : (number : ℕ) (node : Node) (test : Option Status) → node_at tree number ≡ Some node
      → refusal ctx wanted guard node ≡ test
      → SetOrLeft tree number node (with_attributes ctx.moment wanted node) test outcome file_attributes next
      → Sound next
  set_or_left number node (Some status) was tested left = subst Sound (sym left.unchanged) good
  set_or_left number node None was tested set =
      subst Sound (sym set.changed)
      (replaced.sound tree number node (with_attributes ctx.moment wanted node) was
      (shape ctx.moment wanted node) good
      (sound_node ctx wanted guard node tested now fits.uid fits.gid fits.atime fits.mtime
      (good.files number node was).itself))

  set_found : (found : Result (ℕ × Node) Status) → find_file tree handle ≡ found
      → SetFound tree ctx wanted guard found outcome file_attributes next → Sound next
  set_found (Err status) is refused = subst Sound (sym refused.unchanged) good
  set_found (Ok found) is set =
      set_or_left found.0 found.1 (refusal ctx wanted guard found.1) (found-stands tree handle found is) refl
      set

-- a SETATTR keeps a sound tree sound
pub stays_sound : (tree next : Tree) (ctx : Ctx) (handle : List ℕ) (wanted : NewAttributes)
    (guard : Option Moment) (outcome : Result (Unit {0}) Status) (file_attributes : WeakCacheData)
    → Sound tree → SoundTime ctx.moment → NewAttributesFit wanted
    → SetAttrStep tree ctx handle wanted guard outcome file_attributes next → Sound next
stays_sound tree next ctx handle wanted guard outcome file_attributes good now fits step =
    set_found tree next ctx handle wanted guard outcome file_attributes good now fits (find_file tree handle) refl step

-- the answer to a SETATTR
pub record SetAnswer (tree : Tree) (ctx : Ctx) (wanted : NewAttributes) (guard : Option Moment)
    (found : Result (ℕ × Node) Status) : Type 0 where
  pub outcome : Result (Unit {0}) Status
  pub file_attributes : WeakCacheData
  pub next : Tree
  pub is : SetFound tree ctx wanted guard found outcome file_attributes next

set_tested : (tree : Tree) (ctx : Ctx) (wanted : NewAttributes) (guard : Option Moment) (found : ℕ × Node)
    (test : Option Status) → refusal ctx wanted guard found.1 ≡ test
    → SetAnswer tree ctx wanted guard (Ok found)
set_tested tree ctx wanted guard found None tested =
    let new : Node = with_attributes ctx.moment wanted found.1 in
    let step : SetOrLeft tree found.0 found.1 new None (Ok tt) (change_of found.0 found.1 new)
    (with_node tree found.0 new) = record { done = refl; parts = refl; changed = refl } in
    record {
      outcome = Ok tt;
      file_attributes = change_of found.0 found.1 new;
      next = with_node tree found.0 new;
      is = subst (λ test. SetOrLeft tree found.0 found.1 new test (Ok tt) (change_of found.0 found.1 new)
          (with_node tree found.0 new)) (sym tested) step;
    }
set_tested tree ctx wanted guard found (Some status) tested =
    let new : Node = with_attributes ctx.moment wanted found.1 in
    let step : SetOrLeft tree found.0 found.1 new (Some status) (Err status)
    (change_of found.0 found.1 found.1) tree =
    record { refused = refl; parts = refl; unchanged = refl } in
    record {
      outcome = Err status;
      file_attributes = change_of found.0 found.1 found.1;
      next = tree;
      is = subst (λ test. SetOrLeft tree found.0 found.1 new test (Err status)
          (change_of found.0 found.1 found.1) tree) (sym tested) step;
    }

pub set_answer : (tree : Tree) (ctx : Ctx) (wanted : NewAttributes) (guard : Option Moment)
    (found : Result (ℕ × Node) Status) → SetAnswer tree ctx wanted guard found
set_answer tree ctx wanted guard (Ok found) =
    set_tested tree ctx wanted guard found (refusal ctx wanted guard found.1) refl
set_answer tree ctx wanted guard (Err status) = record {
  outcome = Err status;
  file_attributes = untold;
  next = tree;
  is = record { refused = refl; parts = refl; unchanged = refl };
}
