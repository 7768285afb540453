-- What a reply tells besides its outcome (RFC 1813, section 2.6), and the two forms of a step: one that only
-- tells, and one that may change the tree.
use Rattle.std.specs.Prelude.{◌≡◌, ℕ, List, Option, Some, None, Result, Ok, Err}
use Rattle.std.specs.Option.{option_map}
use Rattle.nfs_types.specs.Handle.{handle_bytes}
use Rattle.nfs_types.specs.declared.attributes.Attributes.{Attributes}
use Rattle.nfs_types.specs.declared.attributes.WeakCacheData.{WeakCacheData}
use Rattle.nfs_types.specs.declared.handle.Handle.{Handle}
use Rattle.nfs_types.specs.declared.status.Status.{Status}
use Rattle.nfs_spec.specs.Model.Attributes.{attributes_of, before_change, untold}
use Rattle.nfs_spec.specs.Model.Find.{find_file}
use Rattle.nfs_spec.specs.Model.Node.{Node}
use Rattle.nfs_spec.specs.Model.Tree.{Tree, node_at}
use Rattle.nfs_spec.specs.Procedures.FirstTests.{found_then}

-- the handle of a file
abbrev pub handle_of : ℕ → Node → Handle
handle_of number node = record { bytes = handle_bytes number node.stamp }

-- the attributes of the file of a number, if there is one
abbrev pub attributes_at : Tree → ℕ → Option Attributes
attributes_at tree number = option_map (attributes_of number) (node_at tree number)

-- what is told of a file in a tree (`post_op_attr`): nothing, where its handle names none
abbrev pub attributes_in : Tree → Result (ℕ × Node) Status → Option Attributes
attributes_in tree (Ok found) = attributes_at tree found.0
attributes_in tree (Err status) = None

-- what is told of a file before and after a call (`wcc_data`): nothing, where its handle names none
abbrev pub change_between : Tree → Result (ℕ × Node) Status → WeakCacheData
change_between next (Ok found) = record {
  before = Some (before_change found.1);
  after = attributes_at next found.0;
}
change_between next (Err status) = untold

-- A step that only tells something of the file that its handle names: its attributes with it, and nothing
-- changes.
pub record Tells {A : Type 0} (tree : Tree) (handle : List ℕ) (tell : ℕ → Node → Result A Status)
    (outcome : Result A Status) (object : Option Attributes) (next : Tree) : Type 0 where
  pub answered : outcome ≡ found_then (find_file tree handle) tell
  pub parts : object ≡ attributes_in tree (find_file tree handle)
  pub unchanged : next ≡ tree

-- what a call that isn't refused answers, and the tree that it leads to
pub record Effect (A : Type 0) : Type 0 where
  pub answer : A
  pub next : Tree

-- the answer, or why there is none
abbrev pub answer_of : {A : Type 0} → Result (Effect A) Status → Result A Status
answer_of (Ok effect) = Ok effect.answer
answer_of (Err status) = Err status

-- the tree that a call leads to: a refused one leaves it
abbrev pub tree_after : {A : Type 0} → Tree → Result (Effect A) Status → Tree
tree_after tree (Ok effect) = effect.next
tree_after tree (Err status) = tree

-- A step that may change the tree, by what it does with the file that its handle names.
pub record Acts {A : Type 0} (tree : Tree) (handle : List ℕ) (act : ℕ → Node → Result (Effect A) Status)
    (outcome : Result A Status) (file_attributes : WeakCacheData) (next : Tree) : Type 0 where
  pub answered : outcome ≡ answer_of (found_then (find_file tree handle) act)
  pub leads : next ≡ tree_after tree (found_then (find_file tree handle) act)
  pub parts : file_attributes ≡ change_between next (find_file tree handle)
