-- What a move makes of a tree, step by step, and when it can be made.
use Rattle.std.specs.Prelude.{◌≡◌, ◌≢◌, ℕ, cond, List, Option, Some}
use Rattle.nfs_types.specs.declared.ctx.Moment.{Moment}
use Rattle.nfs_spec.specs.Model.Node.{Node, Body}
use Rattle.nfs_spec.specs.Model.Tree.{Tree}
use Rattle.nfs_spec.specs.Procedures.Changes.{changed_at, departed, entered, without_name}
use Rattle.nfs_spec.specs.Procedures.Rename.{moved}
use Rattle.procs_files.specs.declared.inode_attributes.InodeAttributes.{InodeAttributes}
use Rattle.procs_files.specs.Heads.{is_kind_directory}
use Rattle.procs_names.specs.Links.Shapes.{CanChange, CanEnterAt, CanTake}

-- the number of the directory above a file whose parent is this, if it is a directory
abbrev pub above : InodeAttributes → ℕ → ℕ
above file parent = cond (is_kind_directory file.kind) parent file.parent

-- the file has its new name
abbrev pub named_tree : Tree → Moment → ℕ → List ℕ → ℕ → Body → ℕ → Tree
named_tree tree moment target new_name number body slot =
    changed_at tree target (entered moment new_name (record { number = number; slot = slot }) body)

-- and it is in its new place
abbrev pub placed_tree : Tree → Moment → ℕ → List ℕ → ℕ → Body → ℕ → Tree
placed_tree tree moment target new_name number body slot =
    changed_at (named_tree tree moment target new_name number body slot) number (moved moment target)

-- the file can enter its new place
pub record CanLinkRenamed (tree : Tree) (moment : Moment) (target : ℕ) (new_name : List ℕ) (number : ℕ) (body : Body)
    (slot : ℕ) : Type 0 where
  pub enters : CanEnterAt tree moment target new_name (record { number = number; slot = slot }) body
  pub settles : CanChange (named_tree tree moment target new_name number body slot) number (moved moment target)

-- what stands there can lose its name before
pub record CanReplace (tree : Tree) (moment : Moment) (target : ℕ) (new_name : List ℕ) (number : ℕ) (body : Body)
    (replaced : Option (ℕ × Node)) (slot : ℕ) : Type 0 where
  pub takes : (other : ℕ × Node) → replaced ≡ Some other → CanTake tree moment target new_name other.0 other.1
  pub places : CanLinkRenamed (without_name tree moment target new_name replaced) moment target new_name number body slot

-- the file has left its place
abbrev pub left_tree : Tree → Moment → ℕ → List ℕ → Body → Tree
left_tree tree moment source name body = changed_at tree source (departed moment name body)

-- what a move makes of a tree
abbrev pub moved_tree : Tree → Moment → ℕ → List ℕ → ℕ → List ℕ → ℕ → Body → Option (ℕ × Node) → ℕ → Tree
moved_tree tree moment source name target new_name number body replaced slot =
    placed_tree (without_name (left_tree tree moment source name body) moment target new_name replaced) moment target
    new_name number body slot

-- Each step can be made of the tree that the steps before it have left.
pub record CanMove (tree : Tree) (moment : Moment) (source : ℕ) (name : List ℕ) (target : ℕ) (new_name : List ℕ)
    (number : ℕ) (body : Body) (replaced : Option (ℕ × Node)) (slot : ℕ) : Type 0 where
  pub departs : CanChange tree source (departed moment name body)
  pub apart : (other : ℕ × Node) → replaced ≡ Some other → other.0 ≢ source
  pub replaces : CanReplace (left_tree tree moment source name body) moment target new_name number body replaced slot
