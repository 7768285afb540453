-- Histories whose calls can be spelled, and the transactions that made them.
use Rattle.std.specs.Prelude.{◌≡◌, ◌≢◌, ℕ, List, [], ◌∷◌, slice_get, Some}
use Rattle.nfs_types.specs.declared.ctx.Ctx.{Ctx}
use Rattle.nfs_types.specs.declared.handle.Stamp.{Stamp}
use Rattle.nfs_types.specs.Fits.{CallFits}
use Rattle.nfs_spec.specs.Model.Entry.{Entry}
use Rattle.nfs_spec.specs.Model.Sound.{SoundCtx}

-- a call that can be spelled, in a context that there may be
pub record SoundEntry (entry : Entry) : Type 0 where
  pub ctx : SoundCtx entry.ctx
  pub call : CallFits entry.call

abbrev pub SoundHistory : List Entry → Type 0
SoundHistory [] = Unit {0}
SoundHistory (entry ∷ entries) = SoundEntry entry × SoundHistory entries

-- the stamp that a file gets which is made in a context
abbrev pub stamp_of : Ctx → Stamp
stamp_of ctx = record { boot = ctx.boot; transaction = ctx.transaction }

-- no entry's transaction has this stamp
abbrev pub IsGivenByNone : Stamp → List Entry → Type 0
IsGivenByNone stamp [] = Unit {0}
IsGivenByNone stamp (entry ∷ entries) = (stamp_of entry.ctx ≢ stamp) × IsGivenByNone stamp entries

-- each is of this boot
abbrev pub AreOfBoot : ℕ → List Entry → Type 0
AreOfBoot boot [] = Unit {0}
AreOfBoot boot (entry ∷ entries) = (entry.ctx.boot ≡ boot) × AreOfBoot boot entries

-- What was committed in one boot, in any order of numbers: no two entries have one transaction number.
pub record IsOfOneBoot (boot : ℕ) (entries : List Entry) : Type 0 where
  pub boots : AreOfBoot boot entries
  pub numbers : (one other : ℕ) (a b : Entry) → slice_get entries one ≡ Some a
      → slice_get entries other ≡ Some b → a.ctx.transaction ≡ b.ctx.transaction → one ≡ other
