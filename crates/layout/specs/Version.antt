-- The versions of the format, and their numbers. Another one is another case here, and wherever it is read in
-- another way.
use Rattle.std.specs.Prelude.{ℕ, Bool, true, false, cond, nat_eq, Option, Some, None}
use Rattle.base.specs.declared.TheConstants.{FIRST_VERSION, FORMAT_VERSION}
use Rattle.layout.specs.declared.version.FormatVersion.{FormatVersion}
use Rattle.layout.specs.declared.version.FormatVersion.TheVariants.{First, Second}

abbrev pub number_of_version : FormatVersion → ℕ
number_of_version First = FIRST_VERSION
number_of_version Second = FORMAT_VERSION

abbrev pub version_of_number : ℕ → Option FormatVersion
version_of_number number =
    cond (nat_eq number FIRST_VERSION) (Some First) (cond (nat_eq number FORMAT_VERSION) (Some Second) None)

-- an inode has the number of a double indirect block; in an image of the first version its bytes are zeros
abbrev pub has_double : FormatVersion → Bool
has_double First = false
has_double Second = true
