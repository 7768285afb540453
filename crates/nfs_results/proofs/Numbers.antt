-- Numbers have no length of their own.
use Rattle.std.proofs.Common.{◌≡◌, ℕ, false, List, [], ◌∷◌, refl}
use Rattle.xdr.specs.Codes.{word, some_too_long}

pub short : (numbers : List ℕ) → some_too_long word numbers ≡ false
short [] = refl
short (n ∷ numbers) = short numbers
