-- The inode of a file of another size.
use Rattle.std.specs.Prelude.{◌≡◌, ℕ, Bool, true, false, Option, Some, None}
use Rattle.nfs_spec.specs.Model.Cost.{cost}
use Rattle.nfs_spec.specs.Model.Node.{Body}
use Rattle.layout.specs.declared.inode.Inode.{Inode}
use Rattle.layout.specs.declared.inode.InodeKind.{InodeKind}
use Rattle.layout.specs.declared.inode.InodeKind.TheVariants.{Regular, Directory, Link}

-- the inode with this size, and its own blocks
abbrev pub sized : Inode → ℕ → Inode
sized inode size = record inode { size = size }

abbrev pub is_regular_kind : InodeKind → Bool
is_regular_kind Regular = true
is_regular_kind Directory = false
is_regular_kind Link = false

-- how many blocks the new body uses, if it is said; else as many as the old one
abbrev pub IsUse : Option ℕ → Body → Body → Type 0
IsUse (Some used) old new = cost new ≡ used
IsUse None old new = cost new ≡ cost old
