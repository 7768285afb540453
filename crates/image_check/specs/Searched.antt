-- What is said of the files of an image.
use Rattle.std.specs.Prelude.{◌≡◌, ◌≢◌, ℕ, ◌<◌, ◌≤◌, List, count_by, length, get_or, is_some, IfSome, Option, Some}
use Rattle.std.specs.Prelude.{None}
use Rattle.std.specs.Prelude.{Result, Ok, Err}
use Rattle.base.specs.declared.TheConstants.{BLOCK_BYTES}
use Rattle.disk.specs.Crash.{Image}
use Rattle.nfs_types.specs.Fits.{AreBytes}
use Rattle.nfs_spec.specs.Model.Sound.{IsMadeBy}
use Rattle.nfs_spec.specs.Model.Tree.{Tree}
use Rattle.layout.specs.declared.geometry.Geometry.{Geometry}
use Rattle.layout.specs.declared.inode.Inode.{Inode}
use Rattle.layout.specs.Homes.{homes_of}
use Rattle.layout.specs.Stands.{Stands}
use Rattle.image_read.specs.declared.counts.links.Links.{Links}
use Rattle.image_read.specs.Counts.Linked.{AreLinked}
use Rattle.image_read.specs.Parts.Table.{IsTable}
use Rattle.image_contents.specs.declared.bodies.found.Found.{Found}
use Rattle.image_check.specs.Checked.{AreCounts}
use Rattle.image_check.specs.declared.fault.CheckFault.{CheckFault}
use Rattle.image_check.specs.declared.fault.CheckFault.TheVariants as fault
use Rattle.image_check.specs.declared.fault.Unlinked.{Unlinked}
use Rattle.image_check.specs.declared.judgement.Counts.{Counts}

-- so many blocks
abbrev pub AreBlocksOf : ℕ → Image → Type 0
AreBlocksOf size image = (number : ℕ) → number < size → (length (image number) ≡ BLOCK_BYTES) × AreBytes (image number)

-- no file of a table was made in a later boot
abbrev pub AreMadeBy : ℕ → List (Option Inode) → Type 0
AreMadeBy boot table =
    (number : ℕ) → number < length table → IfSome (get_or table number None) (λ inode. inode.stamp.boot ≤ boot)

-- the homes of an image stand for no tree of which no file was made in a later boot
abbrev pub IsNoTree : Geometry → ℕ → Image → Type 0
IsNoTree g boot image = (tree : Tree) → Stands g (homes_of g.blocks image) tree → IsMadeBy boot tree → ⊥

-- they stand for one, and these are its counts
pub record IsTreeWith (g : Geometry) (boot : ℕ) (image : Image) (counts : Counts) : Type 0 where
  pub tree : Tree
  pub stands : Stands g (homes_of g.blocks image) tree
  pub made : IsMadeBy boot tree
  pub are : AreCounts tree counts

-- what a search of the files answers
abbrev pub IsSearched : Geometry → ℕ → Image → Result Counts CheckFault → Type 0
IsSearched g boot image (Ok counts) = IsTreeWith g boot image counts
IsSearched g boot image (Err fault.Device) = Unit {0}
IsSearched g boot image (Err (fault.NoMemory error)) = Unit {0}
IsSearched g boot image (Err cause) = IsNoTree g boot image

-- these are the blocks of an image, and its table
pub record IsRead (g : Geometry) (image : Image) (table : List (Option Inode)) : Type 0 where
  pub blocks : AreBlocksOf g.blocks image
  pub inodes : IsTable g image g.inodes table

-- the files of a table make a tree, by what was found in them
pub record IsTreeBy (boot : ℕ) (table : List (Option Inode)) (found : Found) : Type 0 where
  pub is_clean : found.unclean ≡ None
  pub made : AreMadeBy boot table
  pub linked : AreLinked table found.links

-- the files make a tree, and these are its counts
pub record IsJudged (boot : ℕ) (table : List (Option Inode)) (found : Found) (counts : Counts) : Type 0 where
  pub tree : IsTreeBy boot table found
  pub files : counts.files ≡ count_by (λ (inode : Option Inode). is_some inode) table
  pub blocks : counts.blocks ≡ found.owners.count

-- this is the file of a number, which isn't named as often as it has links
pub record IsUnlinkedFile (links : Links) (number : ℕ) (inode : Inode) (one : Unlinked) : Type 0 where
  pub number_is : one.inode ≡ number
  pub links_are : one.links ≡ inode.nlink
  pub names_are : one.named ≡ get_or links.names number 0
  pub other : one.links ≢ one.named

abbrev pub IsUnlinkedAt : Links → ℕ → Option Inode → Unlinked → Type 0
IsUnlinkedAt links number (Some inode) one = IsUnlinkedFile links number inode one
IsUnlinkedAt links number None one = ⊥

-- it is one of a table
pub record IsUnlinked (table : List (Option Inode)) (links : Links) (one : Unlinked) : Type 0 where
  pub less : one.inode < length table
  pub is : IsUnlinkedAt links one.inode (get_or table one.inode None) one
