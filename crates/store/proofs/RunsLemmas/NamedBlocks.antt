-- Of each block that a worker's change writes its transaction has taken a part alone.
use Rattle.std.proofs.Common.{◌≡◌, refl, sym, ap, true≢false, ℕ, ◌⊎◌, inl, inr, Bool, true, false, ◌&&◌, ◌||◌}
use Rattle.std.proofs.Common.{nat_eq, Option, Some, None, List, [], All}
use Rattle.std.specs.List.{list_any}
use Rattle.std.proofs.lemmas.Bool.{and_from, and_parts, eq-eqb}
use Rattle.std.proofs.lemmas.List.Elements.{All-nil}
use Rattle.disk.specs.declared.block.BlockNo.{BlockNo}
use Rattle.objects.specs.Mode.{covers, is_exclusive}
use Rattle.objects.specs.declared.addr.Addr.{Addr}
use Rattle.objects.specs.declared.mode.Mode.{Mode}
use Rattle.objects.specs.declared.mode.Mode.TheVariants as modes
use Rattle.inode.specs.declared.snap.Snap.{Snap}
use Rattle.procs.specs.Finished.{EndsFrom}
use Rattle.procs.specs.Outcome.{Outcome}
use Rattle.txn.proofs.OwnChange.{blocks_all, held_by}
use Rattle.txn_law.specs.Core.{CoreState, IsOut}
use Rattle.txn_law.specs.Group.{blocks_of}
use Rattle.txn_law.specs.Holds.{is_written}
use Rattle.txn_law.specs.Leaves.{taken_by}
use Rattle.txn_law.specs.WellFormed.{IsWellFormed}
use Rattle.txn_law.specs.declared.hold.Hold.{Hold}
use Rattle.store_promise.specs.LockRequests.{IsAsMuch}
use Rattle.store_promise.specs.Progress.{is_part_exclusive}
use Rattle.store_promise.specs.declared.lock_requests.LockRequest.{LockRequest}
use Rattle.store_promise.specs.declared.lock_requests.LockRequest.TheVariants as lock_request
use Rattle.store_workers.proofs.LoneWorker.{had, was_read}
use Rattle.store_workers.specs.Seen.{seen_of}
use Rattle.store_workers.specs.Single.{HasOfCall}
use Rattle.store_workers.specs.Unaffected.{IsTraced, TracesTaken}
use Rattle.store.proofs.RunsLemmas.OwnChanges.{any_of}

-- what is noted as taken alone is a part of its block
exclusive_in : (lock_requests : List LockRequest) (addr : Addr) (mode : Mode) → is_exclusive mode ≡ true → IsTraced lock_requests addr mode
    → list_any (is_part_exclusive addr.block) lock_requests ≡ true
exclusive_in lock_requests addr mode mode_exclusive (inl covered) =
    any_of (is_part_exclusive addr.block) lock_requests covered.0 covered.1 (by_lock_request covered.0 covered.2)
  where
    by_mode : (m n : Mode) → covers m n ≡ true → is_exclusive n ≡ true → is_exclusive m ≡ true
    by_mode modes.Exclusive n much is = refl
    by_mode modes.Shared modes.Shared much is = is
    by_mode modes.Shared modes.Exclusive much is = absurd (true≢false (sym much))

    by_lock_request : (found : LockRequest) → IsAsMuch found (lock_request.Object addr mode) → is_part_exclusive addr.block found ≡ true
    by_lock_request (lock_request.Object a m) much = and_from (nat_eq a.block.0 addr.block.0) (is_exclusive m)
        (eq-eqb a.block.0 addr.block.0 (ap (λ (x : Addr). x.block.0) much.0)) (by_mode m mode much.1 mode_exclusive)
    by_lock_request (lock_request.Claim block) much = absurd much
exclusive_in lock_requests addr mode mode_exclusive (inr claimed) = any_of (is_part_exclusive addr.block) lock_requests (lock_request.Claim addr.block) claimed
    (eq-eqb addr.block.0 addr.block.0 refl)

module _ (core : CoreState) (tx : ℕ) (lock_requests : List LockRequest) (traces : TracesTaken core tx lock_requests) where
  -- what may be written is taken alone
  written_exclusive : (addr : Addr) → is_written (taken_by core tx addr) ≡ true
      → list_any (is_part_exclusive addr.block) lock_requests ≡ true
  written_exclusive addr written = by (taken_by core tx addr) refl written
    where
      by_hold : (mode : Mode) (reads claims : Bool) → (is_exclusive mode && (reads || claims)) ≡ true
          → is_exclusive mode ≡ true
      by_hold mode reads claims is = (and_parts (is_exclusive mode) (reads || claims) is).0

      by : (found : Option Hold) → taken_by core tx addr ≡ found → is_written found ≡ true
          → list_any (is_part_exclusive addr.block) lock_requests ≡ true
      by None is none = absurd (true≢false (sym none))
      by (Some hold) is has = exclusive_in lock_requests addr hold.mode
          (by_hold hold.mode hold.is_read hold.is_claimed has) (traces.traced addr hold is)

  -- so are the blocks of what a plan ends in
  pub named_exclusive : (snap : Snap) → IsWellFormed core → IsOut core tx → HasOfCall tx core (seen_of snap)
      → (done : Outcome) → EndsFrom snap done
      → All (λ (block : BlockNo). list_any (is_part_exclusive block) lock_requests ≡ true) (blocks_of done.written)
  named_exclusive snap well_formed out has done ends =
      let P : BlockNo → Type 0 = λ block. list_any (is_part_exclusive block) lock_requests ≡ true in
      blocks_all P [] done.written (All-nil P) (λ object there. written_exclusive object.addr
      (held_by core tx well_formed done.read (was_read core tx snap well_formed out has done ends) object
      (had core tx snap well_formed out has done ends object there)))
