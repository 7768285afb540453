-- That the files of a table make a tree, by what was counted of names.
use Rattle.std.specs.Prelude.{◌≡◌, ◌≢◌, ℕ, ◌+◌, ◌<◌, Bool, true, false, ◌&&◌, cond, List, get_or, length, nat_lt}
use Rattle.std.specs.Prelude.{Option, Some, None}
use Rattle.base.specs.declared.TheConstants.{ROOT}
use Rattle.layout.specs.declared.inode.Inode.{Inode}
use Rattle.layout.specs.declared.inode.InodeKind.{InodeKind}
use Rattle.layout.specs.declared.inode.InodeKind.TheVariants.{Directory, Link, Regular}
use Rattle.image_read.specs.ImageCounts.Iterated.{iterated}
use Rattle.image_read.specs.declared.counts.links.Links.{Links}

-- there are counts of so many numbers
pub record HasCounts (size : ℕ) (links : Links) : Type 0 where
  pub names : length links.names ≡ size
  pub by_parent : length links.by_parent ≡ size
  pub children : length links.children ≡ size

-- A directory has two links and one for each directory that it names. The root is unnamed and its own parent, and each
-- other one is named once, by its parent.
pub record IsLinkedDirectory (size : ℕ) (links : Links) (number : ℕ) (inode : Inode) : Type 0 where
  pub within : inode.parent < size
  pub counted : inode.nlink ≡ 2 + get_or links.children number 0
  pub root : number ≡ ROOT → (get_or links.names number 0 ≡ 0) × (inode.parent ≡ ROOT)
  pub once : number ≢ ROOT → (get_or links.names number 0 ≡ 1) × (get_or links.by_parent number 0 ≡ 1)

-- a file of another kind has as many links as names
abbrev pub IsLinkedFile : ℕ → Links → ℕ → Inode → InodeKind → Type 0
IsLinkedFile size links number inode Directory = IsLinkedDirectory size links number inode
IsLinkedFile size links number inode Regular = inode.nlink ≡ get_or links.names number 0
IsLinkedFile size links number inode Link = inode.nlink ≡ get_or links.names number 0

-- a number without a file isn't named
abbrev pub IsLinked : ℕ → Links → ℕ → Option Inode → Type 0
IsLinked size links number (Some inode) = IsLinkedFile size links number inode inode.kind
IsLinked size links number None = get_or links.names number 0 ≡ 0

-- the root is a directory that no transaction made
abbrev pub IsRoot : Option Inode → Type 0
IsRoot (Some inode) = (inode.kind ≡ Directory) × (inode.stamp ≡ record { boot = 0; transaction = 0 })
IsRoot None = ⊥

abbrev pub is_directory_kind : InodeKind → Bool
is_directory_kind Directory = true
is_directory_kind Regular = false
is_directory_kind Link = false

abbrev pub is_directory_in : Option Inode → Bool
is_directory_in (Some inode) = is_directory_kind inode.kind
is_directory_in None = false

-- the parent of a directory, where it is one of so many numbers; 0, which is no file's number, of what is none
abbrev pub parent_below : ℕ → Option Inode → ℕ
parent_below size (Some inode) = cond (is_directory_kind inode.kind && nat_lt inode.parent size) inode.parent 0
parent_below size None = 0

-- some steps to the parent lead from each directory to the root
abbrev pub AreReached : List (Option Inode) → Type 0
AreReached table = (number : ℕ) → number < length table → is_directory_in (get_or table number None) ≡ true
    → (steps : ℕ) × (iterated (λ n. parent_below (length table) (get_or table n None)) steps number ≡ ROOT)

pub record AreLinked (table : List (Option Inode)) (links : Links) : Type 0 where
  pub zero : get_or table 0 None ≡ None
  pub root : IsRoot (get_or table ROOT None)
  pub each : (number : ℕ) → number < length table → IsLinked (length table) links number (get_or table number None)
  pub reached : AreReached table
