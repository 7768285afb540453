-- A version has one number, and a number is that of one version.
use Rattle.std.proofs.Common.{◌≡◌, ℕ, ◌^◌, ◌<◌, Bool, true, false, cond, nat_eq, Some, None, refl, sym}
use Rattle.std.proofs.Common.{arith}
use Rattle.base.specs.declared.TheConstants.{FIRST_VERSION, FORMAT_VERSION}
use Rattle.layout.specs.declared.version.FormatVersion.{FormatVersion}
use Rattle.layout.specs.declared.version.FormatVersion.TheVariants.{First, Second}
use Rattle.layout.specs.Version.{number_of_version, version_of_number}
use Rattle.layout.proofs.Respelled.{same_number}

pub number_is : (number : ℕ) (version : FormatVersion) → version_of_number number ≡ Some version
    → number_of_version version ≡ number
number_is number version e =
    by_tests (nat_eq number FIRST_VERSION) (nat_eq number FORMAT_VERSION) version refl refl e
  where
    by_tests : (first second : Bool) (version : FormatVersion) → nat_eq number FIRST_VERSION ≡ first
        → nat_eq number FORMAT_VERSION ≡ second
        → cond first (Some First) (cond second (Some Second) None) ≡ Some version
        → number_of_version version ≡ number
    by_tests true second First one two e = sym (same_number number FIRST_VERSION one)
    by_tests true second Second one two e = cc
    by_tests false true First one two e = cc
    by_tests false true Second one two e = sym (same_number number FORMAT_VERSION two)
    by_tests false false version one two e = cc

pub version_is : (version : FormatVersion) → version_of_number (number_of_version version) ≡ Some version
version_is First = refl
version_is Second = refl

pub fits_four : (version : FormatVersion) → number_of_version version < 2 ^ 32
fits_four First = omega arith
fits_four Second = omega arith
