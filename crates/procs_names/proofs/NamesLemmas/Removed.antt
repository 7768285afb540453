-- What REMOVE and RMDIR do, by their tests and by what a name leads to.
use Rattle.std.proofs.Common.{◌≡◌, ℕ, sym, ap, subst, ◌∙◌, refl, Bool, true, false, cond, not, List, [], ◌∷◌, ◌++◌}
use Rattle.std.proofs.Common.{is_none, IfOk, Option, Some, None, Result, Ok, Err}
use Rattle.nfs_types.specs.declared.ctx.Ctx.{Ctx}
use Rattle.nfs_types.specs.declared.status.Status.{Status}
use Rattle.nfs_types.specs.declared.status.Status.TheVariants as status
use Rattle.nfs_spec.specs.Model.Names.{is_directory}
use Rattle.nfs_spec.specs.Model.Node.{Node, Body}
use Rattle.nfs_spec.specs.Model.SetAttr.{first_of_tests}
use Rattle.nfs_spec.specs.Model.Sound.{Sound, SoundCtx}
use Rattle.nfs_spec.specs.Model.Tree.{Tree}
use Rattle.nfs_spec.specs.Procedures.Changes.{without_name}
use Rattle.nfs_spec.specs.Procedures.FirstTests.{may_change, dentry_tests, unless}
use Rattle.nfs_spec.specs.Procedures.Places.{is_found_directory, is_found_other, is_own_name, named_file}
use Rattle.nfs_spec.specs.Procedures.RmDir.{has_names, is_found_filled}
use Rattle.nfs_spec.specs.Procedures.StepForms.{Effect}
use Rattle.procs_files.proofs.KindsAgree.{kinds_agree}
use Rattle.procs_files.specs.Heads.{IsDone, IsFileIn, IsFound, node_of, shell}
use Rattle.procs_files.specs.declared.inode_attributes.InodeAttributes.{InodeAttributes}
use Rattle.procs_names.proofs.LinksLemmas.Doing.{behind, done_not, done_so, stopped, unless_passed, unless_stopped}
use Rattle.procs_names.proofs.LinksLemmas.SoundShapes.{can_take}
use Rattle.procs_names.specs.Links.Outcomes.{IsLet}
use Rattle.procs_names.specs.Links.Shapes.{CanTake, IsLookupForChange}
use Rattle.nfs_spec.specs.Procedures.Remove.{remove_tests}
use Rattle.nfs_spec.specs.Procedures.RmDir.{rmdir_tests}

-- ---- tests

pub remove_own : (name : List ℕ) (file : Option (ℕ × Node)) → is_own_name name ≡ true
    → first_of_tests (remove_tests name file) ≡ Some status.IsDir
remove_own name file own =
    ap (λ b. cond b (Some status.IsDir) (first_of_tests ((is_none file, status.NoEnt)
    ∷ (is_found_directory file, status.IsDir) ∷ []))) own

pub remove_none : (name : List ℕ) (file : Option (ℕ × Node)) → is_own_name name ≡ false → file ≡ None
    → first_of_tests (remove_tests name file) ≡ Some status.NoEnt
remove_none name file own none =
    ap (λ f. first_of_tests (remove_tests name f)) none
    ∙ ap (λ b. cond b (Some status.IsDir) (Some status.NoEnt)) own

pub remove_found : (tree : Tree) (name : List ℕ) (file : Option (ℕ × Node)) (inode_attributes : InodeAttributes) (dir : Bool)
    → is_own_name name ≡ false → IsFound tree file (Some inode_attributes) → is_directory (shell inode_attributes) ≡ dir
    → first_of_tests (remove_tests name file) ≡ cond dir (Some status.IsDir) None
remove_found tree name file inode_attributes dir own there is =
    ap (λ f. first_of_tests (remove_tests name f)) there.1
    ∙ ap (λ b. cond b (Some status.IsDir) (cond (is_directory there.0) (Some status.IsDir) None)) own
    ∙ ap (λ b. cond b (Some status.IsDir) None) (kinds_agree inode_attributes there.0 there.2.fits.kind ∙ is)

pub rmdir_own : (name : List ℕ) (file : Option (ℕ × Node)) → is_own_name name ≡ true
    → first_of_tests (rmdir_tests name file) ≡ Some status.Inval
rmdir_own name file own =
    ap (λ b. cond b (Some status.Inval) (first_of_tests ((is_none file, status.NoEnt)
    ∷ (is_found_other file, status.NotDir) ∷ (is_found_filled file, status.NotEmpty) ∷ []))) own

pub rmdir_none : (name : List ℕ) (file : Option (ℕ × Node)) → is_own_name name ≡ false → file ≡ None
    → first_of_tests (rmdir_tests name file) ≡ Some status.NoEnt
rmdir_none name file own none =
    ap (λ f. first_of_tests (rmdir_tests name f)) none
    ∙ ap (λ b. cond b (Some status.Inval) (Some status.NoEnt)) own

pub rmdir_other : (tree : Tree) (name : List ℕ) (file : Option (ℕ × Node)) (inode_attributes : InodeAttributes)
    → is_own_name name ≡ false → IsFound tree file (Some inode_attributes) → is_directory (shell inode_attributes) ≡ false
    → first_of_tests (rmdir_tests name file) ≡ Some status.NotDir
rmdir_other tree name file inode_attributes own there is =
    ap (λ f. first_of_tests (rmdir_tests name f)) there.1
    ∙ ap (λ b. cond b (Some status.Inval) (cond (not (is_directory there.0)) (Some status.NotDir)
    (cond (has_names there.0) (Some status.NotEmpty) None))) own
    ∙ ap (λ b. cond (not b) (Some status.NotDir) (cond (has_names there.0) (Some status.NotEmpty) None))
    (kinds_agree inode_attributes there.0 there.2.fits.kind ∙ is)

pub rmdir_found : (tree : Tree) (name : List ℕ) (file : Option (ℕ × Node)) (inode_attributes : InodeAttributes) (empty : Bool)
    → is_own_name name ≡ false → (there : IsFound tree file (Some inode_attributes)) → is_directory (shell inode_attributes) ≡ true
    → empty ≡ not (has_names there.0)
    → first_of_tests (rmdir_tests name file) ≡ cond empty None (Some status.NotEmpty)
rmdir_found tree name file inode_attributes empty own there is none =
    ap (λ f. first_of_tests (rmdir_tests name f)) there.1
    ∙ ap (λ b. cond b (Some status.Inval) (cond (not (is_directory there.0)) (Some status.NotDir)
    (cond (has_names there.0) (Some status.NotEmpty) None))) own
    ∙ ap (λ b. cond (not b) (Some status.NotDir) (cond (has_names there.0) (Some status.NotEmpty) None))
    (kinds_agree inode_attributes there.0 there.2.fits.kind ∙ is)
    ∙ turned (has_names there.0) ∙ ap (λ b. cond b None (Some status.NotEmpty)) (sym none)
  where
    turned : (b : Bool) → cond b (Some status.NotEmpty) None ≡ cond (not b) None (Some status.NotEmpty)
    turned true = refl
    turned false = refl

-- ---- what is done

module _ (stands : Tree → Type 0) (tree : Tree) (ctx : Ctx) (name : List ℕ) (inode_attributes : InodeAttributes) (body : Body)
    (rest : Option (ℕ × Node) → List (Bool × Status)) where
  abbrev directory : Node
  directory = node_of inode_attributes body

  abbrev file : Option (ℕ × Node)
  file = named_file tree directory name

  abbrev done : Effect (Unit {0})
  done = record { answer = tt; next = without_name tree ctx.moment inode_attributes.number name file }

  abbrev effect : Result (Effect (Unit {0})) Status
  effect = unless (first_of_tests (dentry_tests (may_change ctx.credential directory) directory name
      ++ rest file)) (Ok done)

  pub stopped_first : (why : Status) → IsLookupForChange tree ctx.credential directory name (Err why) → stands tree
      → IsDone stands tree effect (Err why)
  stopped_first why is at =
      done_not stands tree effect why (unless_stopped (first_of_tests ((dentry_tests (may_change ctx.credential directory) directory name) ++ rest file)) why (Ok done) (stopped (dentry_tests (may_change ctx.credential directory) directory name) (rest file) why is)) at

  pub stopped_then : (found : Option InodeAttributes) (why : Status)
      → IsLookupForChange tree ctx.credential directory name (Ok found) → IsLet (first_of_tests (rest file)) found (Err why)
      → stands tree → IsDone stands tree effect (Err why)
  stopped_then found why first is at =
      done_not stands tree effect why
      (unless_stopped (first_of_tests ((dentry_tests (may_change ctx.credential directory) directory name) ++ rest file)) why (Ok done) (behind (dentry_tests (may_change ctx.credential directory) directory name) (rest file) first.0 ∙ is)) at

  module _ (found : Option InodeAttributes) (first : IsLookupForChange tree ctx.credential directory name (Ok found)) (left : InodeAttributes)
      (second : IsLet (first_of_tests (rest file)) found (Ok left)) where
    pub there : IsFound tree file (Some left)
    there = subst (IsFound tree file) second.1 first.1

    pub taken_in : IsFileIn tree left there.0
    taken_in = there.2

    pub can_be_taken : Sound tree → SoundCtx ctx → IsFileIn tree inode_attributes body
        → CanTake tree ctx.moment inode_attributes.number name left.number (node_of left there.0)
    can_be_taken good now at =
        can_take tree good inode_attributes.number directory at.there name left.number (node_of left there.0) there.1
        ctx.moment now.moment

    pub taken : stands (without_name tree ctx.moment inode_attributes.number name
        (Some (left.number, node_of left there.0)))
        → IsDone stands tree effect (Ok tt)
    taken last =
        done_so stands tree effect done
        (unless_passed (first_of_tests ((dentry_tests (may_change ctx.credential directory) directory name) ++ rest file)) (Ok done) (behind (dentry_tests (may_change ctx.credential directory) directory name) (rest file) first.0 ∙ second.0))
        (subst (λ f. stands (without_name tree ctx.moment inode_attributes.number name f)) (sym there.1) last)

-- both of what a call ensures of its value
pub both_ok : {X Y : Type 0} (r : Result X Y) (P Q : X → Type 0) → IfOk r P → IfOk r Q
    → IfOk r (λ x. P x × Q x)
both_ok (Ok x) P Q p q = (p, q)
both_ok (Err y) P Q p q = p
