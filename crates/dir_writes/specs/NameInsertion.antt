-- A file with a name more.
use Rattle.std.specs.Prelude.{ℕ, List}
use Rattle.nfs_spec.specs.Model.Node.{DirentValue, Node}
use Rattle.nfs_spec.specs.Procedures.Changes.{with_dirent}

-- what a name leads to, and where it lies
abbrev pub dirent_in : ℕ → ℕ → DirentValue
dirent_in number slot = record { number = number; slot = slot }

-- the file with the name
abbrev pub with_name : List ℕ → ℕ → ℕ → Node → Node
with_name name number slot node = record node { body = with_dirent name (dirent_in number slot) node.body }
