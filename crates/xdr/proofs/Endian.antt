-- The numbers that `byteorder` reads are those of the definitions.
use Rattle.std.proofs.Common.{◌≡◌, ℕ, List, arith}
use Rattle.std.specs.Int.{w32, w64, from_be_bytes}
use Rattle.byteorder.specs.Endian.{big_number}

pub four : (bytes : List ℕ) → big_number 4 bytes ≡ from_be_bytes w32 bytes
four bytes = omega arith

pub eight : (bytes : List ℕ) → big_number 8 bytes ≡ from_be_bytes w64 bytes
eight bytes = omega arith
