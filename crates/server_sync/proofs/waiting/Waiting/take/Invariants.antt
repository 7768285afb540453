use Rattle.std.proofs.Common.{◌≡◌, ◌<◌, ℕ, slice_index_or}
use Rattle.server_sync.specs.declared.waiting.SeatAwaitingLog.{SeatAwaitingLog}
use Rattle.server_sync.proofs.waiting.Waiting.take.Given as goal

-- the seats that were looked at wait for more
abbrev pub invariant-loop-at : goal.invariant-loop-at
invariant-loop-at l = (l.self ≡ l.fn.self)
    × ((k : ℕ) (d : SeatAwaitingLog) → k < l.at → l.fn.self.settled < (slice_index_or l.fn.self.awaiting_log.items k d).place)
