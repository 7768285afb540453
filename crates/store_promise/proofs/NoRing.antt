-- Lemma: waits make no ring.
use Rattle.std.proofs.Common.{◌≡◌, ◌∙◌, ◌+◌, ◌*◌, ◌<◌, ◌≤◌, refl, sym, ap, subst, ℕ, ◌⊎◌, inl, inr, Bool, true, false}
use Rattle.std.proofs.Common.{◌&&◌, ◌||◌, nat_eq, nat_lt, List, [], ◌∷◌, ◌++◌, arith}
use Rattle.std.specs.Prelude.{Contains}
use Rattle.std.specs.List.{list_any}
use Rattle.std.proofs.lemmas.Bool.{true≢false}
use Rattle.std.proofs.lemmas.Bool.Decides.{nat_tests}
use Rattle.std.proofs.lemmas.List.Elements.{All-contains, Contains-append_left}
use Rattle.base.specs.declared.TheConstants.{BLOCK_BYTES}
use Rattle.disk.specs.declared.block.BlockNo.{BlockNo}
use Rattle.layout.specs.declared.geometry.Geometry.{Geometry}
use Rattle.layout.specs.Objects.{IsObject, whole}
use Rattle.layout.proofs.OnGrid.{one_or_apart}
use Rattle.objects.specs.Addr.{Overlap}
use Rattle.objects.specs.Mode.{is_exclusive}
use Rattle.objects.specs.declared.addr.Addr.{Addr}
use Rattle.objects.specs.declared.mode.Mode.{Mode}
use Rattle.objects.specs.declared.mode.Mode.TheVariants as modes
use Rattle.txn_law.proofs.Swept.{in_cons, in_first, in_more}
use Rattle.store_promise.specs.LockRequests.{is_bar, is_barred, is_upgrade, image_offset_of}
use Rattle.store_promise.specs.declared.lock_requests.LockRequest.{LockRequest}
use Rattle.store_promise.specs.declared.lock_requests.LockRequest.TheVariants as lock_request
use Rattle.store_promise.specs.Progress.{At, Begun, Job, Planning, Progress, lock_request_conflicts, has_taken, takes}
use Rattle.store_promise.specs.Schedule.{Setting, RunState}
use Rattle.store_promise.specs.Waiting.{AllWait, AreTakenBy, HasTakenWell, IsLockRequest, WaitsFor, Waiter, exclusive_request_of, range_request_of}

-- ---- lock requests of an image that share a byte begin at one place

-- the bytes of a lock request
abbrev whole_addr : BlockNo → Addr
whole_addr block = record {
  block = block;
  offset = 0;
  len = BLOCK_BYTES;
  some = omega arith;
  within = omega arith;
}

abbrev addr_of : LockRequest → Addr
addr_of (lock_request.Object addr mode) = addr
addr_of (lock_request.Claim block) = whole_addr block

module _ (g : Geometry) where
  object_of : (one : LockRequest) → IsLockRequest g one → IsObject g (addr_of one)
  object_of (lock_request.Object addr mode) is = is
  object_of (lock_request.Claim block) is = whole is refl refl

  begins : (one : LockRequest) → image_offset_of one ≡ (addr_of one).block.0 * BLOCK_BYTES + (addr_of one).offset
  begins (lock_request.Object addr mode) = refl
  begins (lock_request.Claim block) = omega arith

  same_block : (a b : BlockNo) → nat_eq a.0 b.0 ≡ true → a ≡ b
  same_block a b is =
      let numbers : a.0 ≡ b.0 = grind (arith, nat_tests) in ap (λ (n : ℕ). record { 0 = n }) numbers

  three : (a b c : Bool) → (a && b && c) ≡ true → (a ≡ true) × (b ≡ true) × (c ≡ true)
  three true true true is = (refl, refl, refl)
  three true true false is = absurd (true≢false (sym is))
  three true false c is = absurd (true≢false (sym is))
  three false b c is = absurd (true≢false (sym is))

  first_of : (a b : Bool) → (a && b) ≡ true → a ≡ true
  first_of true b is = refl
  first_of false b is = is

  -- what keeps a lock request off has a byte of it
  overlaps : (request one : LockRequest) → lock_request_conflicts (range_request_of request) one ≡ true
      → Overlap (addr_of one) (addr_of request)
  overlaps (lock_request.Object addr mode) (lock_request.Object other by) is =
      let (block, low, high) = three (nat_eq other.block.0 addr.block.0) (nat_lt other.offset (addr.offset + addr.len))
      (nat_lt addr.offset (other.offset + other.len)) (first_of _ _ is) in (
        same_block other.block addr.block block,
        grind (arith, nat_tests),
        grind (arith, nat_tests),
      )
  overlaps (lock_request.Object addr mode) (lock_request.Claim block) is =
      let inside = addr.within in let some = addr.some in
      (same_block block addr.block is, omega (arith, inside, some), omega (arith, inside, some))
  overlaps (lock_request.Claim block) (lock_request.Object other by) is =
      let (same, low, high) = three (nat_eq other.block.0 block.0) (nat_lt other.offset (0 + BLOCK_BYTES))
      (nat_lt 0 (other.offset + other.len)) (first_of _ _ is) in
      let inside = other.within in let some = other.some in
      (same_block other.block block same, omega (arith, inside, some), omega (arith, inside, some))
  overlaps (lock_request.Claim block) (lock_request.Claim other) is = (same_block other block is, omega arith, omega arith)

  same_image_offset : (request one : LockRequest) → IsLockRequest g request → IsLockRequest g one → lock_request_conflicts (range_request_of request) one ≡ true
      → image_offset_of one ≡ image_offset_of request
  same_image_offset request one is other off =
      let same = one_or_apart g (addr_of one) (addr_of request) (object_of one other) (object_of request is)
      (overlaps request one off) in
      begins one ∙ ap (λ (a : Addr). a.block.0 * BLOCK_BYTES + a.offset) same ∙ sym (begins request)

  -- and one that begins where a lock request does keeps it off, where that is for one alone
  both : (a b : Bool) → a ≡ true → b ≡ true → (a && b) ≡ true
  both true true is also = refl
  both true false is also = also
  both false b is also = is

  exclusive : (a : Mode) → (is_exclusive a || is_exclusive modes.Exclusive) ≡ true
  exclusive modes.Shared = refl
  exclusive modes.Exclusive = refl

  -- an object that has a byte of what is asked for
  shared : (block : BlockNo) (offset len : ℕ) (other : Addr) (by : Mode) → other.block.0 ≡ block.0
      → other.offset < offset + len → offset < other.offset + other.len
      → ((nat_eq other.block.0 block.0 && nat_lt other.offset (offset + len)
      && nat_lt offset (other.offset + other.len)) && (is_exclusive by || is_exclusive modes.Exclusive)) ≡ true
  shared block offset len other by same low high =
      let one : nat_eq other.block.0 block.0 ≡ true = grind (arith, nat_tests) in
      let two : nat_lt other.offset (offset + len) ≡ true = grind (arith, nat_tests) in
      let three : nat_lt offset (other.offset + other.len) ≡ true = grind (arith, nat_tests) in
      both _ _ (both _ _ (both _ _ one two) three) (exclusive by)

  conflicts_there : (request one : LockRequest) → IsLockRequest g request → image_offset_of one ≡ image_offset_of request
      → lock_request_conflicts (exclusive_request_of request) one ≡ true
  conflicts_there (lock_request.Object addr mode) (lock_request.Object other by) is places =
      let (block, offset) = parts addr other places in
      let some = addr.some in let more = other.some in
      shared addr.block addr.offset addr.len other by block (omega (arith, offset, some))
      (omega (arith, offset, more))
    where
      parts : (addr other : Addr) → other.block.0 * BLOCK_BYTES + other.offset ≡ addr.block.0 * BLOCK_BYTES + addr.offset
          → (other.block.0 ≡ addr.block.0) × (other.offset ≡ addr.offset)
      parts addr other places =
          let a_in = addr.within in let a_some = addr.some in let b_in = other.within in let b_some = other.some in
          let blocks : other.block.0 ≡ addr.block.0 = omega (arith, places, a_in, a_some, b_in, b_some) in
          (blocks, omega (arith, places, blocks))
  conflicts_there (lock_request.Object addr mode) (lock_request.Claim block) is places =
      let inside = addr.within in let some = addr.some in
      let blocks : block.0 ≡ addr.block.0 = omega (arith, places, inside, some) in grind (arith, nat_tests)
  conflicts_there (lock_request.Claim block) (lock_request.Object other by) is places =
      let inside = other.within in let some = other.some in
      let blocks : other.block.0 ≡ block.0 = omega (arith, places, inside, some) in
      let offset : other.offset ≡ 0 = omega (arith, places, blocks) in
      shared block 0 BLOCK_BYTES other by blocks (omega (arith, offset)) (omega (arith, some))
  conflicts_there (lock_request.Claim block) (lock_request.Claim other) is places =
      let blocks : other.0 ≡ block.0 = omega (arith, places) in grind (arith, nat_tests)

-- ---- one of a list

found : {X : Type 0} (test : X → Bool) (xs : List X) → list_any test xs ≡ true
    → (x : X) × Contains xs x × (test x ≡ true)
found test [] is = absurd (true≢false (sym is))
found test (x ∷ xs) is = by (test x) refl is (found test xs)
  where
    by : (t : Bool) → test x ≡ t → (t || list_any test xs) ≡ true
        → (list_any test xs ≡ true → (y : _) × Contains xs y × (test y ≡ true))
        → (y : _) × Contains (x ∷ xs) y × (test y ≡ true)
    by true here is rest = (x, in_first x x xs refl, here)
    by false far is rest = let (y, has, so) = rest is in (y, in_more x y xs has, so)

is_any : {X : Type 0} (test : X → Bool) (xs : List X) (x : X) → Contains xs x → test x ≡ true
    → list_any test xs ≡ true
is_any test [] x has is = absurd (let less = has.1 in omega (arith, less))
is_any test (y ∷ ys) x has is = by (test y) refl (is_any test ys x) (in_cons y x ys has)
  where
    by : (t : Bool) → test y ≡ t → (Contains ys x → test x ≡ true → list_any test ys ≡ true)
        → (y ≡ x) ⊎ Contains ys x → (t || list_any test ys) ≡ true
    by true here rest at = refl
    by false far rest (inl same) = absurd (true≢false (sym is ∙ ap test (sym same) ∙ far))
    by false far rest (inr more) = rest more is

none_above : (request one : LockRequest) (lock_requests : List LockRequest) → is_barred request lock_requests ≡ false → Contains lock_requests one
    → image_offset_of one ≤ image_offset_of request
none_above request one lock_requests none has = by (nat_lt (image_offset_of request) (image_offset_of one)) refl
  where
    or_true : (a b : Bool) → a ≡ true → (a || b) ≡ true
    or_true true b is = refl
    or_true false b is = absurd (true≢false (sym is))

    by : (t : Bool) → nat_lt (image_offset_of request) (image_offset_of one) ≡ t → image_offset_of one ≤ image_offset_of request
    by true above = absurd (true≢false (sym (is_any (is_bar request) lock_requests one has
        (or_true (nat_lt (image_offset_of request) (image_offset_of one)) (is_upgrade request one) above)) ∙ none))
    by false is = grind (arith, nat_tests)

-- ---- who waits has taken what those ask for that wait for it, below what it asks for

module _ (o : Setting) (run_state : RunState)
    (well : (worker : ℕ) → HasTakenWell o.geometry (run_state.workers worker)) where
  abbrev g : Geometry
  g = o.geometry

  -- what a waiter needs of itself
  record Waits (one : Waiter) : Type 0 where
    pub job : Job
    pub begun : Begun
    pub planning : run_state.workers one.worker ≡ At job (Planning begun)
    pub asks : IsLockRequest g one.request
    pub free : is_barred one.request begun.taken ≡ false
    pub not_own : takes (exclusive_request_of one.request) begun ≡ false

  waits : (one other : Waiter) → WaitsFor g run_state one other → Waits one
  waits one other is = record {
    job = is.job;
    begun = is.begun;
    planning = is.planning;
    asks = is.asks;
    free = is.free;
    not_own = is.not_own;
  }

  rises_by : (one next : Waiter) → WaitsFor g run_state one next → Waits next
      → image_offset_of one.request < image_offset_of next.request
  rises_by one next is own =
      let takes_it : takes (range_request_of one.request) own.begun ≡ true =
      sym (ap (λ (p : Progress). has_taken (range_request_of one.request) p) own.planning) ∙ is.theirs in
      let (has, there, off) = found (lock_request_conflicts (range_request_of one.request)) own.begun.taken takes_it in
      let mine : AreTakenBy g own.begun = subst (HasTakenWell g) own.planning (well next.worker) in
      let of_image = All-contains (IsLockRequest g) (own.begun.taken ++ own.begun.left) has mine.lock_requests.of_image
      (Contains-append_left own.begun.taken own.begun.left has there) in
      let same_offsets = same_image_offset g one.request has is.asks of_image off in
      let low = none_above next.request has own.begun.taken own.free there in
      less (image_offset_of one.request) (image_offset_of next.request) (image_offset_of has) same_offsets low
      (λ same. true≢false (sym (is_any (lock_request_conflicts (exclusive_request_of next.request)) own.begun.taken has there
      (conflicts_there g next.request has own.asks same)) ∙ own.not_own))
    where
      less : (a b p : ℕ) → p ≡ a → p ≤ b → (p ≡ b → ⊥) → a < b
      less a b p same low differs = strictly a b (omega (arith, same, low)) (λ is. differs (same ∙ is))
        where
          strictly : (a b : ℕ) → a ≤ b → (a ≡ b → ⊥) → a < b
          strictly a b low differs = omega (arith, low, differs)

  rise_along : (one : Waiter) (later : List Waiter) (last : Waiter) → AllWait g run_state one later last → Waits last
      → image_offset_of one.request < image_offset_of last.request
  rise_along one [] last is own = rises_by one last is own
  rise_along one (next ∷ later) last is own =
      let first = rises_by one next is.0 (of_next later is.1) in
      let rest = rise_along next later last is.1 own in omega (arith, first, rest)
    where
      of_next : (later : List Waiter) → AllWait g run_state next later last → Waits next
      of_next [] is = waits next last is
      of_next (other ∷ more) is = waits next other is.0

  pub no_ring : (one : Waiter) (later : List Waiter) → AllWait g run_state one later one → ⊥
  no_ring one later is = let less = rise_along one later one is (own later is) in omega (arith, less)
    where
      own : (later : List Waiter) → AllWait g run_state one later one → Waits one
      own [] is = waits one one is
      own (next ∷ more) is = waits one next is.0
