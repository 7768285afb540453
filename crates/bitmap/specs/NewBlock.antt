-- Blocks that are free, and blocks that were taken for a file that doesn't have them yet.
use Rattle.std.specs.Prelude.{◌≡◌, ℕ, ◌≤◌, Bool, true, false, List, [], ◌∷◌, length, nat_eq, count_by}
use Rattle.std.specs.Prelude.{Option, Some, None}
use Rattle.std.specs.List.{AllByRecursion}
use Rattle.disk.specs.Crash.{Image}
use Rattle.nfs_spec.specs.Model.Tree.{Tree, free}
use Rattle.layout.specs.declared.geometry.Geometry.{Geometry}
use Rattle.layout.specs.Holds.{Holds}
use Rattle.layout.specs.Owners.{owned}
use Rattle.layout.specs.Parts.{parts_of, put}
use Rattle.layout.specs.Places.{is_data}
use Rattle.bitmap.specs.Bits.{AreOfBytes}

-- a data block that no file has, and whose bit is clear
pub record IsFreeBlock (g : Geometry) (blocks : Image) (number : ℕ) : Type 0 where
  pub lies : is_data g number ≡ true
  pub clear : (parts_of g blocks).block_bits number ≡ false
  pub unowned : count_by (λ one. nat_eq one number) (owned g (parts_of g blocks)) ≡ 0

-- the bits with those of these blocks set, which were taken one after another, the last of them first
abbrev pub marking : List ℕ → (ℕ → Bool) → ℕ → Bool
marking [] bits = bits
marking (number ∷ taken) bits = put (marking taken bits) number true

-- These blocks were free where the base holds the files of the tree, and the image is the base with them
-- marked: no file has them yet.
pub record HasTaken (g : Geometry) (base : Image) (tree : Tree) (taken : List ℕ) (image : Image) : Type 0
  where
    pub holds : Holds g base tree
    pub bytes : AreOfBytes g image
    pub parts : parts_of g image
        ≡ record (parts_of g base) { block_bits = marking taken (parts_of g base).block_bits }
    pub were_free : AllByRecursion (IsFreeBlock g base) taken
    pub once : (number : ℕ) → count_by (λ one. nat_eq one number) taken ≤ 1

-- One block more that was free. There is none only where all that were free are taken.
abbrev pub IsNewBlock : Geometry → Image → Tree → List ℕ → Option ℕ → Type 0
IsNewBlock g base tree taken None = free tree ≤ length taken
IsNewBlock g base tree taken (Some number) =
    IsFreeBlock g base number × (count_by (λ one. nat_eq one number) taken ≡ 0)

-- One of these was taken, if there was one.
abbrev pub TakesNext : Geometry → Image → Tree → List ℕ → Image → Option ℕ → Type 0
TakesNext g base tree taken image None = free tree ≤ length taken
TakesNext g base tree taken image (Some number) = HasTaken g base tree (number ∷ taken) image
