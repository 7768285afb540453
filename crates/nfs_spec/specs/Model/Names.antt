-- How the files of a tree name each other.
use Rattle.std.specs.Prelude.{ℕ, zero, suc, Bool, true, false, List, [], sum_by, count_by, nat_eq, Option}
use Rattle.std.specs.Prelude.{Some, None}
use Rattle.std.specs.FinMap.{entries}
use Rattle.nfs_spec.specs.Model.Node.{Node, Body, DirentValue, Regular, Directory, Link}
use Rattle.nfs_spec.specs.Model.Tree.{Tree, node_at}

-- the entries that a file has: none, but for a directory
abbrev pub entries_of : Body → List (List ℕ × DirentValue)
entries_of (Regular bytes mapped) = []
entries_of (Directory named span parent) = entries named
entries_of (Link target) = []

-- how many entries of a file name a number
abbrev pub names_in : ℕ → Body → ℕ
names_in number body = count_by (λ dirent. nat_eq dirent.1.number number) (entries_of body)

-- how many entries of all files name a number
abbrev pub names_of : Tree → ℕ → ℕ
names_of tree number = sum_by (λ dirent. names_in number dirent.1.body) (entries tree.nodes)

abbrev pub is_directory : Body → Bool
is_directory (Regular bytes mapped) = false
is_directory (Directory named span parent) = true
is_directory (Link target) = false

-- whether a number is that of a directory
abbrev pub is_directory_at : Option Node → Bool
is_directory_at None = false
is_directory_at (Some node) = is_directory node.body

-- how many entries of a directory name directories
abbrev pub child_directories : Tree → Body → ℕ
child_directories tree body =
    count_by (λ dirent. is_directory_at (node_at tree dirent.1.number)) (entries_of body)

-- the directory that names a directory; 0, which is no file's number, of what is none
abbrev pub parent_of : Body → ℕ
parent_of (Regular bytes mapped) = 0
parent_of (Directory named span parent) = parent
parent_of (Link target) = 0

abbrev pub parent_in : Option Node → ℕ
parent_in None = 0
parent_in (Some node) = parent_of node.body

-- the file that so many steps to the parent lead to
abbrev pub ancestor : Tree → ℕ → ℕ → ℕ
ancestor tree zero number = number
ancestor tree (suc steps) number = ancestor tree steps (parent_in (node_at tree number))
