-- What the private answers of the core say: as its others, and exactly what they make of its lists.
use Rattle.std.specs.Prelude.{◌≡◌, ℕ, ◌+◌, Bool}
use Rattle.objects.specs.declared.addr.Addr.{Addr}
use Rattle.objects.specs.declared.mode.Mode.{Mode}
use Rattle.objects.specs.declared.present.Present.{Present}
use Rattle.circ.specs.Log.Calls.{PreservesAgreement}
use Rattle.circ.specs.Log.Grows.{StandsStill}
use Rattle.circ.specs.declared.log.outcomes.Room.TheVariants as room
use Rattle.txn_law.specs.Commit.{Planned, committed}
use Rattle.txn_law.specs.Core.{CoreState}
use Rattle.txn_law.specs.Lists.{IsHeldExactly, IsFetchedExactly, claimed}
use Rattle.txn.specs.Outcomes.{IsWantedWith, IsClaimedWith, IsTried, BringsGroup, IsCommitWith}
use Rattle.txn.specs.declared.outcomes.Want.{Want}
use Rattle.txn.specs.declared.outcomes.Claim.{Claim}
use Rattle.txn.specs.declared.outcomes.Commit.{Commit}

abbrev pub IsWantedExactly : CoreState → ℕ → Addr → Mode → Want → CoreState → Type 0
IsWantedExactly old tx addr mode answer new =
    IsWantedWith (λ bytes. IsHeldExactly old tx addr mode bytes new)
    (λ io. IsFetchedExactly old tx addr mode io new) old tx addr mode answer new

abbrev pub IsClaimedExactly : CoreState → ℕ → Addr → Claim → CoreState → Type 0
IsClaimedExactly old tx addr answer new =
    IsClaimedWith (new ≡ claimed old tx addr) old tx addr answer new

pub record TakesPlaceExactly (old : CoreState) (tx : ℕ) (plan : Planned) (place : ℕ)
    (new : CoreState) : Type 0 where
  pub tried : IsTried old tx plan room.Fits
  pub next : place ≡ old.log.places + 1
  pub group : BringsGroup old plan new
  pub still : StandsStill old.log new.log
  pub places : new.log.places ≡ old.log.places + 1
  -- which blocks stay in memory besides those that are needed
  pub spare : Present → Bool
  pub core : new ≡ committed spare old tx plan new.log
  pub law : PreservesAgreement old.log new.log

abbrev pub IsCommitExactly : {C : Type 0} → CoreState → ℕ → Planned → C → Commit C → CoreState → Type 0
IsCommitExactly old tx plan change answer new =
    IsCommitWith (λ place. TakesPlaceExactly old tx plan place new) old tx plan change answer new
