-- What a check says of an image.
use Rattle.std.specs.Prelude.{◌≡◌, ℕ, ◌+◌, ◌^◌, ◌<◌, ◌≤◌, Result, Ok, Err}
use Rattle.std.specs.FinMap as finmap
use Rattle.disk.specs.Crash.{Image}
use Rattle.disk.specs.Device.{Device}
use Rattle.nfs_spec.specs.Model.Tree.{Tree, used}
use Rattle.store_promise.specs.GoodImage.{IsGoodImage}
use Rattle.image_check.specs.declared.fault.CheckFault.{CheckFault}
use Rattle.image_check.specs.declared.fault.CheckFault.TheVariants as fault
use Rattle.image_check.specs.declared.judgement.Counts.{Counts}

-- what a tree counts to: its files, and the data blocks that they use
pub record AreCounts (tree : Tree) (counts : Counts) : Type 0 where
  pub files : counts.files ≡ finmap.len tree.nodes
  pub blocks : counts.blocks ≡ used tree

-- no image of so many blocks is good that is this one, but with the greatest boot number
abbrev pub IsNotGood : ℕ → Image → Type 0
IsNotGood size image = (tree : Tree) (boot : ℕ) → IsGoodImage size image tree boot → 2 ^ 64 ≤ boot + 1

-- an image is good, and these are its tree's counts
pub record IsGoodWith (size : ℕ) (image : Image) (counts : Counts) : Type 0 where
  pub tree : Tree
  pub boot : ℕ
  pub good : IsGoodImage size image tree boot
  pub are : AreCounts tree counts

-- what a check answers of an image of so many blocks
abbrev pub IsChecked : ℕ → Image → Result Counts CheckFault → Type 0
IsChecked size image (Ok counts) = IsGoodWith size image counts
IsChecked size image (Err fault.Device) = Unit {0}
IsChecked size image (Err (fault.NoMemory error)) = Unit {0}
IsChecked size image (Err cause) = IsNotGood size image

-- a failure is counted just where the answer is that the device failed
abbrev pub CountsCheck : {T : Type 0} → Device → Device → Result T CheckFault → Type 0
CountsCheck old new (Err fault.Device) = old.failures < new.failures
CountsCheck old new answer = new.failures ≡ old.failures
