-- How a file's number and stamp are spelled in a handle.
use Rattle.std.specs.Prelude.{ℕ, List, ◌++◌}
use Rattle.std.specs.Int.{w32, w64, to_be_bytes}
use Rattle.nfs_types.specs.declared.handle.Stamp.{Stamp}

-- the number in 4 bytes, then the boot number and the transaction number in 8 bytes each, greatest byte first
abbrev pub handle_bytes : ℕ → Stamp → List ℕ
handle_bytes number stamp = to_be_bytes w32 number ++ to_be_bytes w64 stamp.boot
    ++ to_be_bytes w64 stamp.transaction
