-- Groups as they are spelled (RFC 5531, appendix A).
use Rattle.std.specs.Prelude.{◌≡◌, ℕ, ◌*◌, ◌≤◌, List, [], ◌∷◌, length}
use Rattle.std.specs.Int.{w32, from_be_bytes}
use Rattle.base.specs.declared.TheConstants.{MOST_GIDS}

-- the numbers that bytes spell, four bytes each
unfoldable pub numbers_in : List ℕ → List ℕ
numbers_in (a ∷ b ∷ c ∷ d ∷ bytes) = from_be_bytes w32 (a ∷ b ∷ c ∷ d ∷ []) ∷ numbers_in bytes
numbers_in _ = []

-- the bytes are those of at most 16 whole numbers
pub record AreGroups (bytes : List ℕ) : Type 0 where
  pub whole : length bytes ≡ 4 * length (numbers_in bytes)
  pub few : length (numbers_in bytes) ≤ MOST_GIDS
