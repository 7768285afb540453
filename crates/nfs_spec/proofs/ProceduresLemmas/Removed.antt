-- A REMOVE of a file's last name: the file is gone, and its blocks are free.
use Rattle.std.proofs.Common.{◌≡◌, ℕ, ◌+◌, ◌-◌, sym, ap, ◌∙◌, refl, Bool, true, false, cond, ◌||◌}
use Rattle.std.proofs.Common.{List, nat_le, Some, None, Ok, arith}
use Rattle.std.proofs.lemmas.Bool.Decides.{nat_tests}
use Rattle.nfs_types.specs.declared.attributes.WeakCacheData.{WeakCacheData}
use Rattle.nfs_types.specs.declared.ctx.Ctx.{Ctx}
use Rattle.nfs_spec.proofs.ModelLemmas.Answered.{found-stands}
use Rattle.nfs_spec.specs.Model.Cost.{cost}
use Rattle.nfs_spec.specs.Model.Find.{find_file}
use Rattle.nfs_spec.specs.Model.Names.{is_directory}
use Rattle.nfs_spec.specs.Model.Node.{Node}
use Rattle.nfs_spec.specs.Model.Sound.{Sound}
use Rattle.nfs_spec.specs.Model.Tree.{Tree, free, node_at, with_node}
use Rattle.nfs_spec.proofs.ProceduresLemmas.TreeChanges.{named_is}
use Rattle.nfs_spec.proofs.ProceduresLemmas.Lacking.{gone_change, none_lacks, of_sound, put_change}
use Rattle.nfs_spec.proofs.ProceduresLemmas.Naming.{not_in_itself}
use Rattle.nfs_spec.proofs.ProceduresLemmas.Soundness.{changed_is, same_cost}
use Rattle.nfs_spec.proofs.ProceduresLemmas.Written.{acted, unless_ok}
use Rattle.nfs_spec.specs.Procedures.Changes.{departed, is_last_name, unnamed, without_name, without_node}
use Rattle.nfs_spec.specs.Procedures.Places.{named_file}
use Rattle.nfs_spec.specs.Procedures.Remove.{RemoveStep, remove, remove_refusal}
use Rattle.nfs_spec.specs.Procedures.StepForms.{Effect}

module _ (tree : Tree) (good : Sound tree) (at : ℕ) (directory : Node)
    (stands : node_at tree at ≡ Some directory) (name : List ℕ) (file : ℕ × Node)
    (found : named_file tree directory name ≡ Some file) (ctx : Ctx) (last : is_last_name file.1 ≡ true) where
  abbrev left : Tree
  left = with_node tree at (departed ctx.moment name file.1.body directory)

  abbrev to : Tree
  to = without_node left file.0

  leads : without_name tree ctx.moment at name (Some file) ≡ to
  leads =
      ap (λ t. unnamed t ctx.moment file.0 file.1)
      (changed_is tree at (departed ctx.moment name file.1.body) directory stands)
      ∙ ap (λ b. cond b (without_node left file.0) (with_node left file.0 (record file.1 {
        nlink = file.1.nlink - 1;
        ctime = ctx.moment;
      }))) last

  apart : file.0 ≡ at → ⊥
  apart same =
      let named = named_is tree directory name file found in
      not_in_itself tree none_lacks (of_sound tree good) at directory stands name named.dirent
      named.dirent_is file.1
      (ap (node_at tree) named.number_is ∙ named.stands) refl (named.number_is ∙ same)

  in_left : node_at left file.0 ≡ Some file.1
  in_left =
      (put_change tree at (Some directory) (departed ctx.moment name file.1.body directory) stands).there
      file.0 apart
      ∙ (named_is tree directory name file found).stands

  pub file_gone : node_at to file.0 ≡ None
  file_gone = (gone_change left file.0 (Some file.1) in_left).here

  pub blocks_freed : free to ≡ free tree + cost file.1.body
  blocks_freed =
      let first =
      (put_change tree at (Some directory) (departed ctx.moment name file.1.body directory) stands).sums
      (λ dirent. cost dirent.1.body) in
      let second = (gone_change left file.0 (Some file.1) in_left).sums (λ dirent. cost dirent.1.body) in
      let same = same_cost name directory.body in
      let has_space = good.has_space in
      omega (arith, first, second, same, has_space)

last_one : (node : Node) → node.nlink ≡ 1 → is_last_name node ≡ true
last_one node one = by (is_directory node.body) (small node.nlink one)
  where
    small : (n : ℕ) → n ≡ 1 → nat_le n 1 ≡ true
    small n e = grind (arith, nat_tests, e)

    by : (b : Bool) → nat_le node.nlink 1 ≡ true → (b || nat_le node.nlink 1) ≡ true
    by true e = refl
    by false e = e

-- After an OK REMOVE of the last name of a file.
pub removed_last : (tree next : Tree) (ctx : Ctx) (handle name : List ℕ) (file_attributes : WeakCacheData)
    (directory file : ℕ × Node) → Sound tree → find_file tree handle ≡ Ok directory
    → named_file tree directory.1 name ≡ Some file → file.1.nlink ≡ 1
    → RemoveStep tree ctx handle name (Ok tt) file_attributes next
    → (node_at next file.0 ≡ None) × (free next ≡ free tree + cost file.1.body)
removed_last tree next ctx handle name file_attributes directory file good directory_is found one s =
    let done = acted tree next handle (remove tree ctx name) tt file_attributes s in
    let same : Ok done.found ≡ Ok directory = sym done.found_is ∙ directory_is in
    let directory_same : done.found ≡ directory = cc in
    let effect : ℕ × Node → Effect (Unit {0}) = λ d. record {
      answer = tt;
      next = without_name tree ctx.moment d.0 name (named_file tree d.1 name);
    } in
    let tests = unless_ok (remove_refusal ctx.credential done.found.1 name (named_file tree done.found.1 name))
    (Ok (effect done.found)) done.effect done.act_is in
    let effect_is : effect done.found ≡ done.effect = let both = tests.1 in cc in
    let stands = found-stands tree handle directory directory_is in
    let last = last_one file.1 one in
    let leads_to : next ≡ without_node (with_node tree directory.0
    (departed ctx.moment name file.1.body directory.1))
    file.0 =
    done.leads ∙ ap (λ e. e.next) (sym effect_is) ∙ ap (λ d. (effect d).next) directory_same
    ∙ ap (without_name tree ctx.moment directory.0 name) found
    ∙ leads tree good directory.0 directory.1 stands name file found ctx last in (
      ap (λ t. node_at t file.0) leads_to
          ∙ file_gone tree good directory.0 directory.1 stands name file found ctx last,
      ap free leads_to ∙ blocks_freed tree good directory.0 directory.1 stands name file found ctx last,
    )
