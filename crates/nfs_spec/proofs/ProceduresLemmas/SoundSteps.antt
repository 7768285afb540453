-- Steps and histories keep trees sound, and no file of a sound tree but the root is its own ancestor.
use Rattle.std.proofs.Common.{◌≡◌, ◌≢◌, ℕ, zero, suc, ◌+◌, ◌-◌, ◌*◌, ◌≤◌, sym, ap, subst, ◌∙◌, refl}
use Rattle.std.proofs.Common.{true, false, List, [], ◌∷◌, Some, arith, inl, inr}
use Rattle.base.specs.declared.TheConstants.{ROOT}
use Rattle.nfs_types.specs.Fits.{CallFits}
use Rattle.nfs_types.specs.declared.call.Call.{Call}
use Rattle.nfs_types.specs.declared.ctx.Ctx.{Ctx}
use Rattle.nfs_types.specs.declared.reply.Reply.{Reply}
use Rattle.nfs_spec.specs.Model.Entry.{Entry}
use Rattle.nfs_spec.specs.Model.Names.{ancestor, is_directory, parent_in, parent_of}
use Rattle.nfs_spec.specs.Model.Node.{Node, Body, Regular, Directory, Link}
use Rattle.nfs_spec.specs.Model.Sound.{Sound, SoundCtx}
use Rattle.nfs_spec.specs.Model.Tree.{Tree, node_at}
use Rattle.nfs_spec.proofs.ProceduresLemmas.Tests.{yes_or_no}
use Rattle.nfs_spec.proofs.ProceduresLemmas.Doing.{what_is_done}
use Rattle.nfs_spec.proofs.ProceduresLemmas.TreeChanges.{TreeChange, leaves, links, makes, removes, renames, sets, writes}
use Rattle.nfs_spec.proofs.ProceduresLemmas.Renaming.{rename_sound}
use Rattle.nfs_spec.proofs.ProceduresLemmas.Soundness.{link_sound, make_sound, remove_sound, set_sound, write_sound}
use Rattle.nfs_spec.proofs.ProceduresLemmas.Within.{along, zero_stays}
use Rattle.nfs_spec.specs.Procedures.After.{after}
use Rattle.nfs_spec.specs.Procedures.Histories.{SoundHistory}
use Rattle.nfs_spec.specs.Procedures.Step.{step}

tree_change_sound : (tree next : Tree) (ctx : Ctx) (fits : Type 0) → Sound tree → SoundCtx ctx → fits
    → TreeChange tree ctx fits next → Sound next
tree_change_sound tree next ctx fits good now f (leaves same) = subst Sound (sym same) good
tree_change_sound tree next ctx fits good now f (sets d) = set_sound tree ctx fits next good now f d
tree_change_sound tree next ctx fits good now f (writes d) = write_sound tree ctx fits next good now f d
tree_change_sound tree next ctx fits good now f (makes d) = make_sound tree ctx fits next good now f d
tree_change_sound tree next ctx fits good now f (links d) = link_sound tree ctx fits next good now f d
tree_change_sound tree next ctx fits good now f (removes d) = remove_sound tree ctx fits next good now f d
tree_change_sound tree next ctx fits good now f (renames d) = rename_sound tree ctx fits next good now f d

pub step_sound : (tree next : Tree) (ctx : Ctx) (asked : Call) (given : Reply) → Sound tree → SoundCtx ctx
    → CallFits asked → step tree ctx asked given next → Sound next
step_sound tree next ctx asked given good now fits step =
    tree_change_sound tree next ctx (CallFits asked) good now fits
    (what_is_done tree next ctx step.new asked given step.is_new step.leads)

pub history_sound : (tree next : Tree) (entries : List Entry) → Sound tree → SoundHistory entries
    → after tree entries next → Sound next
history_sound tree next [] good each same = subst Sound (sym same) good
history_sound tree next (entry ∷ entries) good each leads =
    history_sound leads.0 next entries
    (step_sound tree leads.0 entry.ctx entry.call entry.reply good each.0.ctx each.0.call leads.1) each.1
    leads.2

-- A file that is its own ancestor.
module _ (tree : Tree) (good : Sound tree) (number steps : ℕ) (node : Node)
    (there : node_at tree number ≡ Some node) (other : number ≢ ROOT)
    (own : ancestor tree (suc steps) number ≡ number) where
  rounds : (times : ℕ) → ancestor tree (times * suc steps) number ≡ number
  rounds zero = let none : zero * suc steps ≡ 0 = omega arith in ap (λ n. ancestor tree n number) none
  rounds (suc times) =
      let more : suc times * suc steps ≡ suc steps + times * suc steps = omega arith in
      ap (λ n. ancestor tree n number) more ∙ along tree good (suc steps) (times * suc steps) number
      ∙ ap (ancestor tree (times * suc steps)) own ∙ rounds times

  root_parent : parent_in (node_at tree ROOT) ≡ ROOT
  root_parent =
      let at = good.files ROOT good.root good.root_is in
      ap parent_in good.root_is ∙ ((at.directory good.root_directory).root refl).parent

  root_stays : (more : ℕ) → ancestor tree more ROOT ≡ ROOT
  root_stays zero = refl
  root_stays (suc more) = ap (ancestor tree more) root_parent ∙ root_stays more

  -- a directory comes to the root, and there it stays
  directory_case : is_directory node.body ≡ true → ⊥
  directory_case dir =
      let reached = ((good.files number node there).directory dir).reached in
      let many_steps : reached.0 ≤ reached.0 * suc steps = grows reached.0 in
      let whole : reached.0 * suc steps ≡ reached.0 + (reached.0 * suc steps - reached.0) =
      omega (arith, many_steps) in
      let more = reached.0 * suc steps - reached.0 in
      other (
      sym (rounds reached.0) ∙ ap (λ n. ancestor tree n number) whole
      ∙ along tree good reached.0 more number ∙ ap (ancestor tree more) reached.1 ∙ root_stays more
      )
    where
      grows : (n : ℕ) → n ≤ n * suc steps
      grows n = grind arith

  -- anything else has no parent
  other_case : is_directory node.body ≡ false → ⊥
  other_case no_directory =
      let none = no_parent node.body no_directory in
      let least = (good.files number node there).least in
      let zero_is : number ≡ 0 =
      sym own ∙ ap (λ o. ancestor tree steps (parent_in o)) there ∙ ap (ancestor tree steps) none
      ∙ zero_stays tree good steps in
      omega (arith, zero_is, least)
    where
      no_parent : (body : Body) → is_directory body ≡ false → parent_of body ≡ 0
      no_parent (Regular bytes mapped) e = refl
      no_parent (Directory named span parent) e = cc
      no_parent (Link target) e = refl

  pub own_ancestor : ⊥
  own_ancestor =
      elim (yes_or_no (is_directory node.body)) [
        | inl dir ↦ directory_case dir
        | inr no_directory ↦ other_case no_directory
      ]
