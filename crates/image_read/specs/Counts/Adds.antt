-- What a file adds to what is counted of an image.
use Rattle.std.specs.Prelude.{ℕ, Bool, false, cond, not, ◌&&◌, ◌||◌, List, [], ◌∷◌, nat_eq, nat_lt, get_or}
use Rattle.std.specs.Prelude.{Option, Some, None}
use Rattle.std.specs.List.{flat_map}
use Rattle.layout.specs.declared.inode.Inode.{Inode}
use Rattle.image_read.specs.ImageCounts.Tally.{AreCounts}
use Rattle.image_read.specs.declared.counts.links.Links.{Links}
use Rattle.image_read.specs.Counts.Linked.{is_directory_in, is_directory_kind}

-- a number is that of a block
abbrev pub is_some : ℕ → Bool
is_some number = not (nat_eq number 0)

-- no block, or one of so many
abbrev pub is_none_or_below : ℕ → ℕ → Bool
is_none_or_below size number = nat_eq number 0 || nat_lt number size

-- a directory whose parent is this one
abbrev pub is_child_in : ℕ → Option Inode → Bool
is_child_in directory (Some inode) = is_directory_kind inode.kind && nat_eq inode.parent directory
is_child_in directory None = false

-- those of these numbers that are directories whose parent is this one
abbrev pub named_children : List (Option Inode) → ℕ → List ℕ → List ℕ
named_children table directory numbers =
    flat_map (λ number. cond (is_child_in directory (get_or table number None)) (number ∷ []) []) numbers

-- this directory, once for each of these numbers that is a directory
abbrev pub for_directories : List (Option Inode) → ℕ → List ℕ → List ℕ
for_directories table directory numbers =
    flat_map (λ number. cond (is_directory_in (get_or table number None)) (directory ∷ []) []) numbers

-- it is counted how often each number is in three lists: of all names, of those that directories have in their parents,
-- and of the directories that name a directory
pub record AreNamed (all met naming : List ℕ) (links : Links) : Type 0 where
  pub names : AreCounts all links.names
  pub by_parent : AreCounts met links.by_parent
  pub children : AreCounts naming links.children
