-- What a stop is to leave: the files after a beginning of what was done.
use Rattle.std.specs.Prelude.{ℕ, ◌≤◌, List, take}
use Rattle.disk.specs.Crash.{Image}
use Rattle.nfs_spec.specs.Model.Entry.{Entry}
use Rattle.nfs_spec.specs.Procedures.After.{after}
use Rattle.nfs_spec.specs.Model.Tree.{Tree}
use Rattle.store_promise.specs.GoodImage.{IsGoodImage}

-- An image of so many blocks is good, with a boot number that it may have, and with the tree after the first so
-- many of the entries: no more than there may be, and among them each place that has to last.
pub record HasPrefix (size : ℕ) (IsBoot : ℕ → Type 0) (tree : Tree) (entries : List Entry) (most : ℕ)
    (HasToLast : ℕ → Type 0) (image : Image) : Type 0 where
  pub boot : ℕ
  pub boot_is : IsBoot boot
  pub left : Tree
  pub good : IsGoodImage size image left boot
  pub count : ℕ
  pub few : count ≤ most
  pub prefix : after tree (take count entries) left
  pub lasts : (place : ℕ) → HasToLast place → place ≤ count
