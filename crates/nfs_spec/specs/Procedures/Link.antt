-- LINK (RFC 1813, section 3.3.15).
use Rattle.std.specs.Prelude.{◌≡◌, ℕ, Bool, suc, List, [], ◌∷◌, ◌++◌, Option, Some, Result}
use Rattle.nfs_types.specs.declared.attributes.Attributes.{Attributes}
use Rattle.nfs_types.specs.declared.attributes.WeakCacheData.{WeakCacheData}
use Rattle.nfs_types.specs.declared.ctx.Credential.{Credential}
use Rattle.nfs_types.specs.declared.ctx.Ctx.{Ctx}
use Rattle.nfs_types.specs.declared.ctx.Moment.{Moment}
use Rattle.nfs_types.specs.declared.status.Status.{Status}
use Rattle.nfs_types.specs.declared.status.Status.TheVariants as status
use Rattle.nfs_spec.specs.Model.Find.{find_file}
use Rattle.nfs_spec.specs.Model.Names.{is_directory}
use Rattle.nfs_spec.specs.Model.Node.{Node, DirentValue}
use Rattle.nfs_spec.specs.Model.SetAttr.{first_of_tests}
use Rattle.nfs_spec.specs.Model.Tree.{Tree}
use Rattle.nfs_spec.specs.Procedures.Changes.{changed_at, entered, if_dirent}
use Rattle.nfs_spec.specs.Procedures.FirstTests.{after_first, found_then, may_change, dentry_tests, unless}
use Rattle.nfs_spec.specs.Procedures.Fresh.{new_dirent}
use Rattle.nfs_spec.specs.Procedures.MkDir.{is_full, is_there}
use Rattle.nfs_spec.specs.Procedures.Places.{least_free_slot, named_file}
use Rattle.nfs_spec.specs.Procedures.StepForms.{Effect, answer_of, change_between, attributes_in, tree_after}

-- the tests of the file, of its new name and of what that leads to, behind those of the name's place
abbrev pub link_tests : List ℕ → Node → Option (ℕ × Node) → List (Bool × Status)
link_tests name node found =
    (is_directory node.body, status.Inval)
    ∷ (is_there name found, status.Exist)
    ∷ (is_full node, status.MLink)
    ∷ []

abbrev pub link_refusal : Tree → Credential → List ℕ → Node → Node → Option Status
link_refusal tree caller name node directory = first_of_tests (
    dentry_tests (may_change caller directory) directory name
    ++ link_tests name node (named_file tree directory name))

-- a file that gets one name more
abbrev pub linked : Moment → Node → Node
linked moment node = record node { nlink = suc node.nlink; ctime = moment }

-- the name in its directory, and the file with it
abbrev pub with_link : Tree → Moment → List ℕ → ℕ → Node → ℕ → DirentValue → Effect (Unit {0})
with_link tree moment name number node at dirent = record {
  answer = tt;
  next = changed_at (changed_at tree at (entered moment name dirent node.body)) number (linked moment);
}

abbrev pub link : Tree → Ctx → List ℕ → ℕ → Node → ℕ → Node → Result (Effect (Unit {0})) Status
link tree ctx name number node at directory =
    unless (link_refusal tree ctx.credential name node directory)
    (if_dirent tree (new_dirent (Some number) (least_free_slot directory.body))
    (with_link tree ctx.moment name number node at))

-- what comes of the call: the file's handle is tested first, and then the directory's
abbrev pub linking : Tree → Ctx → List ℕ → List ℕ → List ℕ → Result (Effect (Unit {0})) Status
linking tree ctx file directory name =
    found_then (find_file tree file) (λ number node. found_then (find_file tree directory)
    (link tree ctx name number node))

-- Both files are told of.
pub record LinkStep (tree : Tree) (ctx : Ctx) (file directory name : List ℕ)
    (outcome : Result (Unit {0}) Status)
    (file_attributes : Option Attributes) (directory_attributes : WeakCacheData) (next : Tree) : Type 0 where
  pub answered : outcome ≡ answer_of (linking tree ctx file directory name)
  pub leads : next ≡ tree_after tree (linking tree ctx file directory name)
  pub parts : file_attributes ≡ attributes_in next (find_file tree file)
  pub directory_parts : directory_attributes
      ≡ change_between next (after_first (find_file tree file) (find_file tree directory))
