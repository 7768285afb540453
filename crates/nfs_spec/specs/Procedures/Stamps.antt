-- The stamps of the files behind a step.
use Rattle.std.specs.Prelude.{◌≡◌, ◌⊎◌, ℕ, Some, None}
use Rattle.nfs_types.specs.declared.handle.Stamp.{Stamp}
use Rattle.nfs_spec.specs.Model.Node.{Node}
use Rattle.nfs_spec.specs.Model.Tree.{Tree, node_at}

-- the number had a file of this stamp before
pub record WasThere (tree : Tree) (number : ℕ) (stamp : Stamp) : Type 0 where
  pub old : Node
  pub old_is : node_at tree number ≡ Some old
  pub stamp_is : old.stamp ≡ stamp

-- the number was unused, and the stamp is that of the step's transaction
pub record IsMadeNow (tree : Tree) (number : ℕ) (stamp mine : Stamp) : Type 0 where
  pub unused : node_at tree number ≡ None
  pub stamp_is : stamp ≡ mine

-- A file's stamp: it was there with it, or it is made now.
abbrev pub IsPreservedOrMade : Tree → ℕ → Stamp → Stamp → Type 0
IsPreservedOrMade tree number stamp mine = WasThere tree number stamp ⊎ IsMadeNow tree number stamp mine
