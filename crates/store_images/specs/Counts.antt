-- What stays while a store is open.
use Rattle.std.specs.Prelude.{◌≡◌}
use Rattle.txn.specs.Core.{CoreState}

-- the image's counts stay, and whether a call of the log and of the installer is out
pub record SameFrame (old new : CoreState) : Type 0 where
  pub blocks : new.log.blocks ≡ old.log.blocks
  pub inodes : new.inodes ≡ old.inodes
  pub log_out : new.log.log_out ≡ old.log.log_out
  pub inst_out : new.log.inst_out ≡ old.log.inst_out
