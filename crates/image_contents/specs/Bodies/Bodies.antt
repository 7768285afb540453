-- The files of an image, each by itself, and what is counted of them.
use Rattle.std.specs.Prelude.{◌≡◌, ℕ, ◌<◌, Bool, true, false, ◌⊎◌, List, ◌++◌, take, drop, length, get_or, Option, Some}
use Rattle.std.specs.Prelude.{None, Ok}
use Rattle.std.specs.List.{flat_map, range_with_len}
use Rattle.base.specs.declared.TheConstants.{BLOCK_BYTES}
use Rattle.disk.specs.Crash.{Image}
use Rattle.layout.specs.declared.geometry.Geometry.{Geometry}
use Rattle.layout.specs.declared.inode.Inode.{Inode}
use Rattle.layout.specs.declared.inode.InodeKind.{InodeKind}
use Rattle.layout.specs.declared.inode.InodeKind.TheVariants.{Directory, Link, Regular}
use Rattle.layout.specs.Decode.{IsMapped, bytes_of, numbers_of}
use Rattle.layout.specs.Fields.{is_zeros}
use Rattle.layout.specs.InodeForm.{SoundInode}
use Rattle.layout.specs.Owners.{owned_by}
use Rattle.image_read.specs.ImageCounts.Tally.{IsOwned}
use Rattle.image_read.specs.Files.Slots.{IsSpanned}
use Rattle.image_read.specs.declared.counts.links.Links.{Links}
use Rattle.image_read.specs.Counts.Linked.{HasCounts}
use Rattle.image_read.specs.Laws.TreeOf.{named_numbers, named_of}
use Rattle.image_contents.specs.Names.Names.{AreNames}
use Rattle.image_read.specs.Counts.Adds.{AreNamed, for_directories, named_children}
use Rattle.image_contents.specs.Names.SlotsOf.{slots_of_directory}
use Rattle.image_contents.specs.declared.bodies.found.Found.{Found}

-- the blocks of a file are numbered as they are to be, and the layout refuses none of a directory's slots
abbrev pub HasBlocksOf : Geometry → Image → InodeKind → Inode → Type 0
HasBlocksOf g content Directory inode =
    IsMapped g content inode × IsSpanned g.inodes content inode (numbers_of content inode)
HasBlocksOf g content Regular inode = IsMapped g content inode
HasBlocksOf g content Link inode = IsMapped g content inode

-- a directory has the blocks that it spans, and the layout refuses none of its slots
abbrev pub IsSpannedOf : Geometry → Image → InodeKind → Inode → Type 0
IsSpannedOf g content Directory inode = IsSpanned g.inodes content inode (numbers_of content inode)
IsSpannedOf g content Regular inode = Unit {0}
IsSpannedOf g content Link inode = Unit {0}

abbrev pub HasBlocks : Geometry → Image → Option Inode → Type 0
HasBlocks g content (Some inode) = HasBlocksOf g content inode.kind inode
HasBlocks g content None = Unit {0}

-- nothing lies past a file's size, and the names in a directory's slots are names, none of them twice
abbrev pub IsCleanOf : Geometry → Image → InodeKind → Inode → Type 0
IsCleanOf g content Directory inode = AreNames (slots_of_directory g.inodes content inode)
IsCleanOf g content Regular inode = is_zeros (drop inode.size (bytes_of content (numbers_of content inode))) ≡ true
IsCleanOf g content Link inode = is_zeros (drop inode.size (bytes_of content (take 1 inode.direct))) ≡ true

abbrev pub IsClean : Geometry → Image → Option Inode → Type 0
IsClean g content (Some inode) = IsCleanOf g content inode.kind inode
IsClean g content None = Unit {0}

-- the number of the first file that isn't clean, once one file more was looked at
abbrev pub first_unclean : Option ℕ → ℕ → Bool → Option ℕ
first_unclean (Some first) number is_clean = Some first
first_unclean None number true = None
first_unclean None number false = Some number

-- the inode of a number is sound, if it is a file's
abbrev pub IsSoundIfAny : Geometry → Option Inode → Type 0
IsSoundIfAny g (Some inode) = SoundInode g inode
IsSoundIfAny g None = Unit {0}

-- there are counts of so many blocks and numbers
pub record FitsFound (g : Geometry) (found : Found) : Type 0 where
  pub owners : length found.owners.has ≡ g.blocks
  pub links : HasCounts g.inodes found.links

-- these are the blocks of an image and its table: each data block is one, and each inode is sound
pub record AreAsRead (g : Geometry) (content : Image) (table : List (Option Inode)) : Type 0 where
  pub long : (number : ℕ) → length (content number) ≡ BLOCK_BYTES
  pub sound : (number : ℕ) → number < g.inodes → IsSoundIfAny g (get_or table number None)

-- the names in a file's slots are counted
abbrev pub IsNamed : Geometry → Image → List (Option Inode) → ℕ → Option Inode → Links → Links → Type 0
IsNamed g content table number inode old new =
    (all met naming : List ℕ) → AreNamed all met naming old
    → AreNamed (all ++ named_of g.inodes content (Ok inode))
    (met ++ named_children table number (named_of g.inodes content (Ok inode)))
    (naming ++ for_directories table number (named_of g.inodes content (Ok inode))) new

-- what is told of a file of a kind by what lies in its blocks
pub record IsScanned (g : Geometry) (content : Image) (table : List (Option Inode)) (number : ℕ) (kind : InodeKind)
    (inode : Inode) (old new : Links) (is_clean : Bool) : Type 0 where
  pub spans : IsSpannedOf g content kind inode
  pub named : (all met naming : List ℕ) → AreNamed all met naming old
      → AreNamed (all ++ named_numbers g.inodes content kind inode)
      (met ++ named_children table number (named_numbers g.inodes content kind inode))
      (naming ++ for_directories table number (named_numbers g.inodes content kind inode)) new
  pub yes : is_clean ≡ true → IsCleanOf g content kind inode
  pub no : is_clean ≡ false → IsCleanOf g content kind inode → ⊥

-- what the blocks and the slots of the inode of a number add to what was found
pub record IsAdded (g : Geometry) (content : Image) (table : List (Option Inode)) (number : ℕ) (inode : Option Inode)
    (old new : Found) : Type 0 where
  pub owned : (met : List ℕ) → IsOwned met old.owners → IsOwned (met ++ owned_by content (Ok inode)) new.owners
  pub named : IsNamed g content table number inode old.links new.links
  pub is_clean : new.unclean ≡ None → (old.unclean ≡ None) × IsClean g content inode
  pub unclean : (first : ℕ) → new.unclean ≡ Some first → (old.unclean ≡ Some first)
      ⊎ ((number ≡ first) × (old.unclean ≡ None) × (IsClean g content inode → ⊥))

-- the numbers that the first inodes own, and those that their slots name
abbrev pub all_owned : Image → List (Option Inode) → ℕ → List ℕ
all_owned content table count = flat_map (λ n. owned_by content (Ok (get_or table n None))) (range_with_len 0 count)

abbrev pub names_at : ℕ → Image → List (Option Inode) → ℕ → List ℕ
names_at inodes content table n = named_of inodes content (Ok (get_or table n None))

-- of the first files of a table that of this number isn't clean, and those of lower numbers are
pub record IsFirstUnclean (g : Geometry) (content : Image) (table : List (Option Inode))
    (count number : ℕ) : Type 0 where
  pub within : number < count
  pub is : IsClean g content (get_or table number None) → ⊥
  pub first : (lower : ℕ) → lower < number → IsClean g content (get_or table lower None)

-- this was found in the first files of a table
pub record IsFound (g : Geometry) (content : Image) (table : List (Option Inode)) (count : ℕ)
    (found : Found) : Type 0 where
  pub blocks : (number : ℕ) → number < count → HasBlocks g content (get_or table number None)
  pub owned : IsOwned (all_owned content table count) found.owners
  pub named : AreNamed (flat_map (names_at g.inodes content table) (range_with_len 0 count))
      (flat_map (λ n. named_children table n (names_at g.inodes content table n)) (range_with_len 0 count))
      (flat_map (λ n. for_directories table n (names_at g.inodes content table n)) (range_with_len 0 count)) found.links
  pub is_clean : found.unclean ≡ None → (number : ℕ) → number < count → IsClean g content (get_or table number None)
  pub unclean : (number : ℕ) → found.unclean ≡ Some number → IsFirstUnclean g content table count number
