-- How addresses are taken, and which modes keep each other off.
use Rattle.std.specs.Prelude.{◌≡◌, ◌⊎◌, Bool, false, not, true}
use Rattle.objects.specs.declared.mode.Mode.{Mode}
use Rattle.objects.specs.declared.mode.Mode.TheVariants as modes

-- what is taken in the one mode keeps off what is asked for in the other: one of the two is exclusive
abbrev pub Excludes : Mode → Mode → Type 0
Excludes one other = (one ≡ modes.Exclusive) ⊎ (other ≡ modes.Exclusive)

-- whether it is for one transaction alone
abbrev pub is_exclusive : Mode → Bool
is_exclusive modes.Shared = false
is_exclusive modes.Exclusive = true

-- the mode of what is taken in one and asked for in another
abbrev pub upgraded : Mode → Mode → Mode
upgraded one modes.Shared = one
upgraded one modes.Exclusive = modes.Exclusive

-- whether what is taken in the one mode serves who asks for it in the other
abbrev pub covers : Mode → Mode → Bool
covers modes.Exclusive request = true
covers modes.Shared request = not (is_exclusive request)
