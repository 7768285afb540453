use Rattle.std.proofs.Common.{◌≡◌, ◌++◌, drop}
use Rattle.xdr.proofs.ghost_bytes.GhostBytes.put.Given as goal

abbrev pub invariant-loop-byte : goal.invariant-loop-byte
invariant-loop-byte l = l.self ++ drop l.byte-index l.bytes ≡ l.fn.self ++ l.bytes
