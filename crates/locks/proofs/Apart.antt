-- An address that is taken for one alone has one holder.
use Rattle.std.proofs.Common.{◌≡◌, ◌⊎◌, inl, inr, List, refl, subst, arith}
use Rattle.std.specs.Prelude.{Contains}
use Rattle.objects.specs.Addr.{Overlap}
use Rattle.objects.specs.declared.addr.Addr.{Addr}
use Rattle.objects.specs.declared.mode.Mode.TheVariants as modes
use Rattle.txn_law.specs.WellFormed.{AreCompatible, AreApart}
use Rattle.txn_law.specs.declared.hold.Hold.{Hold}
use Rattle.txn_law.proofs.Again.{one_or_apart}

-- an address has a byte
pub overlaps_itself : (addr : Addr) → Overlap addr addr
overlaps_itself addr = (refl, omega (arith, addr.some), omega (arith, addr.some))

pub one_holder : (holds : List Hold) (one other : Hold) → AreApart holds → Contains holds one
    → Contains holds other → one.addr ≡ other.addr → one.mode ≡ modes.Exclusive → one ≡ other
one_holder holds one other apart here there same exclusive_hold = go (one_or_apart holds one other apart here there)
  where
    go : (one ≡ other) ⊎ AreCompatible one other → one ≡ other
    go (inl is) = is
    go (inr compatible) = absurd (compatible (subst (λ (addr : Addr). Overlap one.addr addr) same
        (overlaps_itself one.addr)) (inr (inl exclusive_hold)))
