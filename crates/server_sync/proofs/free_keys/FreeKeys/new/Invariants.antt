use Rattle.std.proofs.Common.{◌≡◌, ◌≤◌}
use Rattle.std.specs.Vec.{vec_capacity}
use Rattle.std.specs.List.{range_with_len}
use Rattle.server_sync.specs.Keys.{numbers_of}
use Rattle.server_sync.proofs.free_keys.FreeKeys.new.Given as goal

-- the keys of all numbers below this one were put, and there is room for the others
abbrev pub invariant-loop-number : goal.invariant-loop-number
invariant-loop-number l = (numbers_of l.keys.items ≡ range_with_len 0 l.number) × (l.count ≤ vec_capacity l.keys)
