-- What is known of the names of a call, once it was begun to look for them.
use Rattle.std.specs.Prelude.{◌≡◌, Option, Some}
use Rattle.nfs_types.specs.declared.call.Call.{Call}
use Rattle.inode.specs.declared.snap.Snap.{Snap}
use Rattle.dir.specs.declared.search.call_names.Names.{Names}
use Rattle.dir.specs.Search.Known.{IsKnown, IsOfCall}

-- what is known of them is so by what was read
pub record IsKnownBy (snap : Snap) (names : Option Names) : Type 0 where
  pub known : (one : Names) → names ≡ Some one → IsKnown snap one

-- they are those of the call
pub record AreOf (call : Call) (names : Option Names) : Type 0 where
  pub of_call : (one : Names) → names ≡ Some one → IsOfCall call one
