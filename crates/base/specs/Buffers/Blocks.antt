-- Contents that are blocks.
use Rattle.std.specs.Prelude.{◌≡◌, ℕ, ◌<◌, List, length, get_or}
use Rattle.base.specs.declared.TheConstants.{BLOCK_BYTES}

-- 4,096 bytes
abbrev pub IsBlock : List ℕ → Type 0
IsBlock content = (length content ≡ BLOCK_BYTES) × ((index : ℕ) → get_or content index 0 < 256)
