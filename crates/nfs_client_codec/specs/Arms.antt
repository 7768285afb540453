-- The two arms of a result: what comes behind OK, and a refusal with what comes behind it.
use Rattle.std.specs.Prelude.{◌⊎◌, Result, Ok, Err}
use Rattle.std.proofs.Common.{inl, inr}
use Rattle.nfs_types.specs.declared.status.Status.{Status}

abbrev pub arm_of : {A B : Type 0} → Result A (Status × B) → A ⊎ (Status × B)
arm_of (Ok done) = inl done
arm_of (Err refused) = inr refused
