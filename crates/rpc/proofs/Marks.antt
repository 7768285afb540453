-- A number of four bytes is the mark of a fragment.
use Rattle.std.proofs.Common.{◌≡◌, ℕ, ◌%◌, ◌^◌, ◌<◌, Bool, true, false, ap, arith, inl, inr}
use Rattle.std.proofs.lemmas.Bool.{cases_lt}
use Rattle.xdr.specs.Items.{word}
use Rattle.rpc.specs.Records.{mark}

pub marks : (number n : ℕ) → number < 2 ^ 32 → n ≡ number % 2 ^ 31 → (last : Bool) × (n < 2 ^ 31)
    × (word number ≡ mark last n)
marks number n lt e =
    elim (cases_lt number (2 ^ 31)) [
      | inl below ↦ (false, omega arith, ap word (omega arith))
      | inr above ↦ (true, omega arith, ap word (omega arith))
    ]
