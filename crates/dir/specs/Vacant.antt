-- In which slots no name lies.
use Rattle.std.specs.Prelude.{◌≡◌, ℕ, ◌<◌, ◌≤◌, Bool, true, false, Option, Some, None, Result, Ok, Err}
use Rattle.layout.specs.declared.fault.LayoutFault.{LayoutFault}
use Rattle.layout.specs.declared.slot.Slot.{Slot}
use Rattle.dir.specs.Slots.{Lying}

-- no name lies in what was read as this
abbrev pub is_free : Result (Option Slot) LayoutFault → Bool
is_free (Ok None) = true
is_free (Ok (Some slot)) = false
is_free (Err fault) = false

-- none of these slots is free
abbrev pub NoneFree : Lying → ℕ → ℕ → Type 0
NoneFree lies from end = (slot : ℕ) → from ≤ slot → slot < end → is_free (lies slot) ≡ false

-- the first of these slots that is free, or none is
abbrev pub IsFirstFree : Lying → ℕ → ℕ → Option ℕ → Type 0
IsFirstFree lies from end None = NoneFree lies from end
IsFirstFree lies from end (Some free) =
    (from ≤ free) × (free < end) × (is_free (lies free) ≡ true) × NoneFree lies from free
