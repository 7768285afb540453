-- Verifiers of eight bytes.
use Rattle.std.specs.Prelude.{ℕ, Bool, nat_eq}
use Rattle.std.specs.Int.{w64, to_be_bytes}
use Rattle.std.specs.List.{list_all}
use Rattle.nfs_types.specs.declared.verifier.Verifier.{Verifier}

-- the boot number of a store, greatest byte first
abbrev pub boot_verifier : ℕ → Verifier
boot_verifier boot = record { bytes = to_be_bytes w64 boot }

-- no byte but zeros
abbrev pub is_zeros : Verifier → Bool
is_zeros verifier = list_all (λ byte. nat_eq byte 0) verifier.bytes
