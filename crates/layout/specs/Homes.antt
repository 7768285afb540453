-- The homes of an image: its blocks behind the log. Blocks stand for trees by these alone, whatever the super
-- block, the headers and the slots of the log hold.
use Rattle.std.specs.Prelude.{ℕ, Bool, cond, ◌&&◌, nat_le, nat_lt, replicate}
use Rattle.base.specs.declared.TheConstants.{BLOCK_BYTES, FIRST_HOME_BLOCK}
use Rattle.disk.specs.Crash.{Image}

abbrev pub is_home : ℕ → ℕ → Bool
is_home size number = nat_le FIRST_HOME_BLOCK number && nat_lt number size

-- the homes of an image of so many blocks, and zeros for all other blocks
abbrev pub homes_of : ℕ → Image → Image
homes_of size image number = cond (is_home size number) (image number) (replicate BLOCK_BYTES 0)
