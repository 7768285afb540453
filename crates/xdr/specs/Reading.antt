-- Reading items from left to right, with the first refusal that is met (RFC 4506).
use Rattle.std.specs.Prelude.{◌≡◌, ◌⊎◌, ℕ, zero, suc, ◌+◌, Bool, true, false, List, [], ◌∷◌, length, take}
use Rattle.std.specs.Prelude.{drop, Option, Some, None, Result, Ok, Err, nat_lt, ◌==◌, if◌then◌else◌, alloc_error}
use Rattle.std.specs.Int.{Width, w32, byte_len, from_be_bytes}
use Rattle.std.specs.List.{list_all}
use Rattle.xdr.specs.Items.{padding}
use Rattle.xdr.specs.declared.fault.XdrFault.{XdrFault}
use Rattle.xdr.specs.declared.fault.XdrFault.TheVariants.{Short, Padding, Value, Length, Left}
use Rattle.xdr.specs.declared.fault.XdrFault.TheVariants.{NoMemory}

infixl 10 ◌>>=◌
abbrev pub ◌>>=◌ : {A B : Type 0} → Result A XdrFault → (A → Result B XdrFault) → Result B XdrFault
(Ok x) >>= f = f x
(Err e) >>= f = Err e

-- what a reader returned, seen by view, is what reading gives
abbrev pub Reads : {X Y : Type 0} → (X → Y) → Result X XdrFault → Result Y XdrFault → Type 0
Reads view (Ok x) read = read ≡ Ok (view x)
Reads view (Err e) read = read ≡ Err e

-- the same, but that an allocation may have failed
abbrev pub Gives : {X Y : Type 0} → (X → Y) → Result X XdrFault → Result Y XdrFault → Type 0
Gives view (Ok x) read = read ≡ Ok (view x)
Gives view (Err e) read = (read ≡ Err e) ⊎ (e ≡ NoMemory alloc_error)

-- the same, where an allocation fails only once all is read
abbrev pub GivesWhole : {Y : Type 0} → Result Y XdrFault → Result Y XdrFault → Type 0
GivesWhole (Ok y) read = read ≡ Ok y
GivesWhole {Y} (Err e) read = (read ≡ Err e) ⊎ ((e ≡ NoMemory alloc_error) × (y : Y) × (read ≡ Ok y))

-- a number is so many bytes, the greatest first
abbrev pub number_at : Width → List ℕ → Result (ℕ × List ℕ) XdrFault
number_at w bytes = if nat_lt (length bytes) (byte_len w) then Err Short
    else Ok (from_be_bytes w (take (byte_len w) bytes), drop (byte_len w) bytes)

abbrev pub flag_of : ℕ → List ℕ → Result (Bool × List ℕ) XdrFault
flag_of zero rest = Ok (false, rest)
flag_of (suc zero) rest = Ok (true, rest)
flag_of (suc (suc n)) rest = Err Value

-- a flag is the number 0 or 1
unfoldable pub flag_at : List ℕ → Result (Bool × List ℕ) XdrFault
flag_at bytes = do
  n ← number_at w32 bytes
  flag_of n.0 n.1

-- a string of at most so many bytes is its length, its bytes and its zeros
unfoldable pub opaque_at : ℕ → List ℕ → Result (List ℕ × List ℕ) XdrFault
opaque_at bound bytes = do
  n ← number_at w32 bytes
  if nat_lt bound n.0 then Err Length else
      if nat_lt (length n.1) (n.0 + padding n.0) then Err Short else
      if list_all (λ b. b == 0) (take (padding n.0) (drop n.0 n.1))
      then Ok (take n.0 n.1, drop (padding n.0) (drop n.0 n.1)) else Err Padding

-- eight bytes as they stand there
unfoldable pub eight_at : List ℕ → Result (List ℕ × List ℕ) XdrFault
eight_at bytes = if nat_lt (length bytes) 8 then Err Short else Ok (take 8 bytes, drop 8 bytes)

-- a flag, and the item where it is true
abbrev pub optional_at : {A : Type 0} → (List ℕ → Result (A × List ℕ) XdrFault) → List ℕ
    → Result (Option A × List ℕ) XdrFault
optional_at item bytes = do
  there ← flag_at bytes
  if there.0 then (item there.1 >>= λ x. Ok (Some x.0, x.1)) else Ok (None, there.1)

-- nothing, where nothing is left
abbrev pub end_at : List ℕ → Result (Unit {0}) XdrFault
end_at [] = Ok tt
end_at (b ∷ bytes) = Err Left
