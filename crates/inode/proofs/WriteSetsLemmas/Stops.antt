-- Where a reading of what lies there stops, one of what was read stops too.
use Rattle.std.proofs.Common.{◌≡◌, refl, ap, ◌&&◌, Bool, true, false, subst, List}
use Rattle.layout.specs.declared.geometry.Geometry.{Geometry}
use Rattle.layout.specs.Objects.{IsObject}
use Rattle.layout.specs.Places.{is_data}
use Rattle.inode.specs.declared.snap.Snap.{Snap}
use Rattle.inode.specs.declared.suspend.Suspend.{Suspend}
use Rattle.inode.specs.declared.suspend.Suspend.TheVariants as suspend
use Rattle.inode.specs.Over.{MaySuspend}
use Rattle.inode.specs.Snap.{is_among, is_claimed, is_had, is_seen}
use Rattle.objects.specs.declared.addr.Addr.{Addr}
use Rattle.objects.specs.declared.mode.Mode.{Mode}
use Rattle.objects.specs.declared.mode.Mode.TheVariants as modes
use Rattle.inode.specs.WriteSets.WriteSetContents.{IsAfter}

pub stops_before : (seen there : Snap) → IsAfter seen there → (why : Suspend) → MaySuspend there why
    → MaySuspend seen why
stops_before seen there after (suspend.Need addr mode) may = (
  by_mode mode may.0,
  subst (λ (g : Geometry). IsObject g addr) after.geometry may.1,
)
  where
    lower : (a b : Bool) → b ≡ false → (a && b) ≡ false
    lower true b is = is
    lower false b is = refl

    of_both : (is : Bool) → is_seen addr there.objects.items ≡ is
        → (is && is_among addr there.exclusives.items) ≡ false
        → (is_seen addr seen.objects.items && is_among addr seen.exclusives.items) ≡ false
    of_both false none is = ap (λ (b : Bool). b && is_among addr seen.exclusives.items) (after.all addr may.1 none)
    of_both true some is = lower (is_seen addr seen.objects.items) (is_among addr seen.exclusives.items)
        (subst (λ (l : List Addr). is_among addr l ≡ false) after.exclusives is)

    by_mode : (m : Mode) → is_had addr m there.objects.items there.exclusives.items ≡ false
        → is_had addr m seen.objects.items seen.exclusives.items ≡ false
    by_mode modes.Shared is = after.all addr may.1 is
    by_mode modes.Exclusive is = of_both (is_seen addr there.objects.items) refl is
stops_before seen there after (suspend.Claim block) may = (
  subst (λ claims. is_claimed block claims ≡ false) after.claims may.0,
  subst (λ (g : Geometry). is_data g block.0 ≡ true) after.geometry may.1,
)
stops_before seen there after suspend.Io may = tt
stops_before seen there after (suspend.NoMemory error) may = tt
