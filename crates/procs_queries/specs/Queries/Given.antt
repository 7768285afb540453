-- What READ tells of the bytes that it gives.
use Rattle.std.specs.Prelude.{ℕ, ◌+◌, List, length, nat_le}
use Rattle.nfs_types.specs.declared.reply.ReadBytes.{ReadBytes}

-- the bytes, and whether a file of this size ends with them
abbrev pub bytes_given : ℕ → ℕ → List ℕ → ReadBytes
bytes_given size offset given = record {
  count = length given;
  eof = nat_le size (offset + length given);
  bytes = given;
}
