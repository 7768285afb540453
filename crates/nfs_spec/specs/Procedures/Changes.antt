-- What calls change in a tree: files, and the names in directories. A change of a name sets the times of its
-- directory.
use Rattle.std.specs.Prelude.{ℕ, suc, ◌+◌, ◌-◌, ◌/◌, max, Bool, cond, ◌||◌, nat_le, nat_lt, List, Option}
use Rattle.std.specs.Prelude.{Some, None, Result, Ok, Err}
use Rattle.std.specs.FinMap.{insert, remove}
use Rattle.std.specs.Option.{option_map}
use Rattle.base.specs.declared.TheConstants.{SLOTS_PER_BLOCK}
use Rattle.nfs_types.specs.declared.ctx.Moment.{Moment}
use Rattle.nfs_types.specs.declared.status.Status.{Status}
use Rattle.nfs_types.specs.declared.status.Status.TheVariants as status
use Rattle.nfs_spec.specs.Model.Names.{is_directory}
use Rattle.nfs_spec.specs.Model.Node.{Node, Body, DirentValue, Regular, Directory, Link}
use Rattle.nfs_spec.specs.Model.Tree.{Tree, node_at, with_node, need, free}
use Rattle.nfs_spec.specs.Procedures.StepForms.{Effect}

-- the tree without the file of a number
abbrev pub without_node : Tree → ℕ → Tree
without_node tree number = record { geometry = tree.geometry; nodes = remove tree.nodes number }

abbrev pub with_file : Tree → ℕ → Option Node → Tree
with_file tree number None = tree
with_file tree number (Some node) = with_node tree number node

-- the tree in which the file of a number, if there is one, is changed
abbrev pub changed_at : Tree → ℕ → (Node → Node) → Tree
changed_at tree number change = with_file tree number (option_map change (node_at tree number))

-- how many links of its directory a file is: a directory is one, by its `..`
abbrev pub parent_links : Body → ℕ
parent_links body = cond (is_directory body) 1 0

-- a directory spans the block of each of its slots
abbrev pub with_dirent : List ℕ → DirentValue → Body → Body
with_dirent name dirent (Regular bytes mapped) = Regular bytes mapped
with_dirent name dirent (Directory named span parent) =
    Directory (insert named name dirent) (max span (suc (dirent.slot / SLOTS_PER_BLOCK))) parent
with_dirent name dirent (Link target) = Link target

-- no directory shrinks
abbrev pub without_dirent : List ℕ → Body → Body
without_dirent name (Regular bytes mapped) = Regular bytes mapped
without_dirent name (Directory named span parent) = Directory (remove named name) span parent
without_dirent name (Link target) = Link target

-- a directory that gets a name for a file, in place of any that it led to
abbrev pub entered : Moment → List ℕ → DirentValue → Body → Node → Node
entered moment name dirent file directory = record directory {
  nlink = directory.nlink + parent_links file;
  mtime = moment;
  ctime = moment;
  body = with_dirent name dirent directory.body;
}

-- a directory that loses the name of a file
abbrev pub departed : Moment → List ℕ → Body → Node → Node
departed moment name file directory = record directory {
  nlink = directory.nlink - parent_links file;
  mtime = moment;
  ctime = moment;
  body = without_dirent name directory.body;
}

-- a directory is gone with its name, and another file with its last one
abbrev pub is_last_name : Node → Bool
is_last_name node = is_directory node.body || nat_le node.nlink 1

-- a file that loses a name: it is gone, or has one link less
abbrev pub unnamed : Tree → Moment → ℕ → Node → Tree
unnamed tree moment number node =
    cond (is_last_name node) (without_node tree number)
    (with_node tree number (record node { nlink = node.nlink - 1; ctime = moment }))

-- the file that a name in a directory leads to loses that name, if it leads to one
abbrev pub without_name : Tree → Moment → ℕ → List ℕ → Option (ℕ × Node) → Tree
without_name tree moment directory name None = tree
without_name tree moment directory name (Some file) =
    unnamed (changed_at tree directory (departed moment name file.1.body)) moment file.0 file.1

-- a change adds more blocks than are free
abbrev pub lacks_space : Tree → Tree → Bool
lacks_space old new = nat_lt (free old) (need old new)

-- what is done only where the blocks reach (NFS3ERR_NOSPC)
abbrev pub if_space : {A : Type 0} → Tree → Effect A → Result (Effect A) Status
if_space tree effect = cond (lacks_space tree effect.next) (Err status.NoSpc) (Ok effect)

-- what is done with a new entry, where there is one to be had and the blocks reach
abbrev pub if_dirent : {A : Type 0} → Tree → Option DirentValue → (DirentValue → Effect A)
    → Result (Effect A) Status
if_dirent tree None effect = Err status.NoSpc
if_dirent tree (Some dirent) effect = if_space tree (effect dirent)
