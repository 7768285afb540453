-- What a worker's commit writes lies in what its transaction has taken, and so all else stays.
use Rattle.std.proofs.Common.{◌≡◌, ◌∙◌, sym, ap, ◌⊎◌, inl, inr, ℕ, ◌+◌, ◌<◌, arith, refl}
use Rattle.std.proofs.Common.{Bool, true, false, ◌&&◌, ◌||◌, if◌then◌else◌, nat_eq, nat_lt, ne_eqb}
use Rattle.std.proofs.Common.{List, [], ◌∷◌, map, length}
use Rattle.std.proofs.Common.{Option, Some, None, All}
use Rattle.std.specs.List.{list_any}
use Rattle.std.specs.Prelude.{Contains}
use Rattle.std.proofs.lemmas.Bool.{and_from, and_parts, eq-eqb, eqb-true, lt-ltb, or_left, or_right, true≢false}
use Rattle.std.proofs.lemmas.List.Elements.{All-head, All-tail, All-weaker}
use Rattle.disk.specs.Crash.{Image}
use Rattle.disk.specs.declared.block.BlockNo.{BlockNo}
use Rattle.base.specs.declared.TheConstants.{BLOCK_BYTES}
use Rattle.objects.specs.Addr.{Overlap}
use Rattle.objects.specs.Spliced.{spliced}
use Rattle.objects.specs.Mode.{covers, is_exclusive}
use Rattle.objects.specs.declared.addr.Addr.{Addr}
use Rattle.objects.specs.declared.mode.Mode.{Mode}
use Rattle.objects.specs.declared.mode.Mode.TheVariants as modes
use Rattle.layout.specs.declared.geometry.Geometry.{Geometry}
use Rattle.inode.specs.Snap.{is_among, is_claimed, is_seen, same_addr}
use Rattle.inode.proofs.HadExclusive.{one_addr}
use Rattle.txn_law.specs.Object.{ObjectBytes}
use Rattle.txn_law.specs.Group.{blocks_of}
use Rattle.txn_law.specs.Records.{lies_in}
use Rattle.txn_law.specs.Window.{with_object, with_objects}
use Rattle.txn_law.proofs.Unaffected.{stays_unaffected}
use Rattle.txn_law.proofs.OverlaidContent.{among_after}
use Rattle.txn_law.proofs.Swept.{in_cons}
use Rattle.store_promise.specs.LockRequests.{IsAsMuch, IsCovered}
use Rattle.store_promise.specs.Changes.{PreservesOthers, PreservesUnnamed}
use Rattle.store_promise.specs.Progress.{At, Begun, Planning, Taken, RangeRequest, lock_request_conflicts, lock_request_of}
use Rattle.store_promise.specs.Progress.{conflicts_with, shares, takes}
use Rattle.store_promise.specs.Waiting.{AreTakenBy}
use Rattle.store_promise.specs.declared.lock_requests.LockRequest.{LockRequest}
use Rattle.store_promise.specs.declared.lock_requests.LockRequest.TheVariants as lock_request
use Rattle.store_promise.specs.Progress as run_progress
use Rattle.store_promise.specs.Schedule.{range_request_at}
use Rattle.store_workers.specs.Asked.{Asking}
use Rattle.store_workers.specs.Knowing.{Knowing}
use Rattle.store.specs.Runs.AtWork.{IsSeenIn}
use Rattle.store_workers.proofs.HeldAs.{as_object_read}
use Rattle.store_workers.specs.Seen.{Seen, mode_in, seen_in}
use Rattle.store_workers.specs.Stages.{taken_as, at_fetch, at_stage, begun_of, claimed_in, held_in}
use Rattle.store_workers.specs.Stages.{progress_in, progress_of}
use Rattle.store_workers.specs.declared.workers.parts.Job.{Job}
use Rattle.store_workers.specs.declared.workers.parts.Phase.{Phase}
use Rattle.store_workers.specs.declared.workers.parts.Phase.TheVariants as phases
use Rattle.store_workers.specs.declared.workers.parts.State.{State}

-- ---- what a planning worker is told to have taken

no_fetch : (job : Option Job) (stage : Taken → run_progress.Stage) (mine : Begun) (mode : Mode) (fetch_addr : Option Addr)
    (j : run_progress.Job) (b : Begun)
    → ((taken : Taken) → stage taken ≡ Planning b → ⊥)
    → at_stage job (at_fetch stage mine mode fetch_addr) ≡ At j (Planning b) → mine ≡ b
no_fetch None stage mine mode fetch_addr j b never is = cc
no_fetch (Some job) stage mine mode None j b never is = let same : Planning mine ≡ Planning b = cc in cc
no_fetch (Some job) stage mine mode (Some addr) j b never is =
    let same : stage (taken_as mode addr) ≡ Planning b = cc in absurd (never (taken_as mode addr) same)

planned_in : (phase : Phase) (job : Option Job) (mine : Begun) (asked : Asking) (knowing : Knowing) (j : run_progress.Job)
    (b : Begun) → progress_in phase job mine asked knowing ≡ At j (Planning b) → mine ≡ b
planned_in phases.Idle job mine asked knowing j b is = cc
planned_in phases.Called None mine asked knowing j b is = cc
planned_in phases.Called (Some job) mine asked knowing j b is = cc
planned_in phases.Planning None mine asked knowing j b is = cc
planned_in phases.Planning (Some job) mine asked knowing j b is = let same : Planning mine ≡ Planning b = cc in cc
planned_in phases.Reading job mine asked knowing j b is =
    no_fetch job (λ taken. run_progress.Reading mine taken) mine asked.mode asked.fetch_addr j b (λ taken same. cc) is
planned_in (phases.Read ok) job mine asked knowing j b is =
    no_fetch job (λ taken. run_progress.Read mine taken ok) mine asked.mode asked.fetch_addr j b (λ taken same. cc) is
planned_in (phases.Refused why) None mine asked knowing j b is = cc
planned_in (phases.Refused why) (Some job) mine asked knowing j b is = cc
planned_in phases.Again None mine asked knowing j b is = cc
planned_in phases.Again (Some job) mine asked knowing j b is = cc
planned_in (phases.Waiting place) job mine asked knowing j b is = by asked.waiting is
  where
    by : (waiting : Option Job) → at_stage waiting (run_progress.Waiting place.0) ≡ At j (Planning b) → mine ≡ b
    by None is = cc
    by (Some job) is = cc

-- it is what its worker has read and claimed
pub planned_has : (state : State) (j : run_progress.Job) (b : Begun) → progress_of state ≡ At j (Planning b)
    → (b.held ≡ held_in (seen_in state.work.planner)) × (b.claimed ≡ claimed_in (seen_in state.work.planner))
planned_has state j b is =
    let mine = begun_of state.begun.tx (seen_in state.work.planner) state.known in
    let same = planned_in state.phase state.work.job mine state.asked state.known j b is in
    (sym (ap (λ (b : Begun). b.held) same), sym (ap (λ (b : Begun). b.claimed) same))

-- ---- what shares a byte with what is written shares one with what was taken

pub any_of : {X : Type 0} (test : X → Bool) (xs : List X) (x : X) → Contains xs x → test x ≡ true
    → list_any test xs ≡ true
any_of test [] x has is = absurd (let less = has.1 in omega (arith, less))
any_of test (y ∷ ys) x has is = by (test y) refl (any_of test ys x) (in_cons y x ys has)
  where
    by : (t : Bool) → test y ≡ t → (Contains ys x → test x ≡ true → list_any test ys ≡ true)
        → (y ≡ x) ⊎ Contains ys x → (t || list_any test ys) ≡ true
    by true here rest at = refl
    by false far rest (inl same) = absurd (true≢false (sym is ∙ ap test (sym same) ∙ far))
    by false far rest (inr more) = rest more is

module _ (addr : Addr) where
  abbrev request : RangeRequest
  request = range_request_at addr modes.Shared

  abbrev IsAside : ObjectBytes → Type 0
  IsAside object = Overlap object.addr addr → ⊥

  at_same : (object other : Addr) (mode : Mode) → same_addr object other ≡ true → mode ≡ modes.Exclusive
      → Overlap object addr → conflicts_with request (taken_as mode other) ≡ true
  at_same object other mode same mode_exclusive over =
      let (leading, lens) = and_parts (nat_eq object.block.0 other.block.0 && nat_eq object.offset other.offset)
      (nat_eq object.len other.len) same in
      let (blocks, offsets) = and_parts (nat_eq object.block.0 other.block.0)
      (nat_eq object.offset other.offset) leading in
      let block_is = eqb-true object.block.0 other.block.0 blocks in
      let offset_is = eqb-true object.offset other.offset offsets in
      let len_is = eqb-true object.len other.len lens in
      let at : object.block.0 ≡ addr.block.0 = ap (λ (b : BlockNo). b.0) over.0 in
      let one = over.1 in
      let two = over.2 in
      and_from (shares request other) (is_exclusive mode || is_exclusive modes.Shared)
      (and_from (nat_eq other.block.0 addr.block.0 && nat_lt other.offset (addr.offset + addr.len))
      (nat_lt addr.offset (other.offset + other.len))
      (and_from (nat_eq other.block.0 addr.block.0) (nat_lt other.offset (addr.offset + addr.len))
      (eq-eqb other.block.0 addr.block.0 (sym block_is ∙ at))
      (lt-ltb other.offset (addr.offset + addr.len) (omega (arith, offset_is, one))))
      (lt-ltb addr.offset (other.offset + other.len) (omega (arith, offset_is, len_is, two))))
      (ap (λ (m : Mode). is_exclusive m || is_exclusive modes.Shared) mode_exclusive)

  among_read : (object : Addr) (exclusives : List Addr) (objects : List ObjectBytes) → is_seen object objects ≡ true
      → is_among object exclusives ≡ true → Overlap object addr
      → list_any (conflicts_with request) (map (as_object_read exclusives) objects) ≡ true
  among_read object exclusives [] seen among over = absurd (true≢false (sym seen))
  among_read object exclusives (o ∷ os) seen among over =
      by (same_addr object o.addr) refl (λ later. among_read object exclusives os later among over)
    where
      mode_is : (a : Addr) → object ≡ a → mode_in exclusives a ≡ modes.Exclusive
      mode_is a same = ap (λ (t : Bool). if t then modes.Exclusive else modes.Shared)
          (ap (λ (x : Addr). is_among x exclusives) (sym same) ∙ among)

      by : (t : Bool) → same_addr object o.addr ≡ t → (is_seen object os ≡ true
          → list_any (conflicts_with request) (map (as_object_read exclusives) os) ≡ true)
          → list_any (conflicts_with request) (map (as_object_read exclusives) (o ∷ os)) ≡ true
      by true same rest = or_left (conflicts_with request (as_object_read exclusives o)) _
          (at_same object o.addr (mode_in exclusives o.addr) same (mode_is o.addr (one_addr object o.addr same)) over)
      by false other rest = or_right (conflicts_with request (as_object_read exclusives o)) _
          (rest (sym (ap (λ (t : Bool). t || is_seen object os) other) ∙ seen))

  among_claimed : (block : BlockNo) (claims : List BlockNo) → is_claimed block claims ≡ true
      → block.0 ≡ addr.block.0
      → list_any (λ (claim : BlockNo). nat_eq claim.0 addr.block.0) claims ≡ true
  among_claimed block [] claimed at = absurd (true≢false (sym claimed))
  among_claimed block (c ∷ cs) claimed at =
      by (nat_eq block.0 c.0) refl (λ later. among_claimed block cs later at)
    where
      by : (t : Bool) → nat_eq block.0 c.0 ≡ t → (is_claimed block cs ≡ true
          → list_any (λ (claim : BlockNo). nat_eq claim.0 addr.block.0) cs ≡ true)
          → list_any (λ (claim : BlockNo). nat_eq claim.0 addr.block.0) (c ∷ cs) ≡ true
      by true same rest = or_left (nat_eq c.0 addr.block.0) _
          (eq-eqb c.0 addr.block.0 (sym (eqb-true block.0 c.0 same) ∙ at))
      by false other rest = or_right (nat_eq c.0 addr.block.0) _
          (rest (sym (ap (λ (t : Bool). t || is_claimed block cs) other) ∙ claimed))

  -- what keeps it off among what was told or claimed is taken
  among_held : (held : List Taken) (taken : List LockRequest) → All (λ (t : Taken). IsCovered taken (lock_request_of t)) held
      → list_any (conflicts_with request) held ≡ true → list_any (lock_request_conflicts request) taken ≡ true
  among_held [] taken had some = absurd (true≢false (sym some))
  among_held (t ∷ ts) taken had some =
      let P : Taken → Type 0 = λ t. IsCovered taken (lock_request_of t) in
      by (conflicts_with request t) refl (All-head P t ts had) (among_held ts taken (All-tail P t ts had)) some
    where
      -- what covers it keeps off too
      covering : (found : LockRequest) → IsAsMuch found (lock_request_of t) → conflicts_with request t ≡ true
          → lock_request_conflicts request found ≡ true
      covering (lock_request.Object a m) much off =
          let (same, exclusive_too) = and_parts (shares request t.addr) (is_exclusive t.mode || is_exclusive modes.Shared) off
          in and_from (shares request a) (is_exclusive m || is_exclusive modes.Shared)
          (ap (shares request) much.0 ∙ same) (by_mode m t.mode much.1 exclusive_too)
        where
          by_mode : (m n : Mode) → covers m n ≡ true → (is_exclusive n || is_exclusive modes.Shared) ≡ true
              → (is_exclusive m || is_exclusive modes.Shared) ≡ true
          by_mode modes.Exclusive n much off = refl
          by_mode modes.Shared modes.Shared much off = off
          by_mode modes.Shared modes.Exclusive much off = absurd (true≢false (sym much))
      covering (lock_request.Claim block) much off = absurd much

      by : (off : Bool) → conflicts_with request t ≡ off → IsCovered taken (lock_request_of t)
          → (list_any (conflicts_with request) ts ≡ true → list_any (lock_request_conflicts request) taken ≡ true)
          → (off || list_any (conflicts_with request) ts) ≡ true → list_any (lock_request_conflicts request) taken ≡ true
      by true is has rest some = any_of (lock_request_conflicts request) taken has.0 has.1 (covering has.0 has.2 is)
      by false is has rest some = rest some

  among_claims : (claims : List BlockNo) (taken : List LockRequest)
      → All (λ (b : BlockNo). Contains taken (lock_request.Claim b)) claims
      → list_any (λ (claim : BlockNo). nat_eq claim.0 addr.block.0) claims ≡ true
      → list_any (lock_request_conflicts request) taken ≡ true
  among_claims [] taken had some = absurd (true≢false (sym some))
  among_claims (c ∷ cs) taken had some =
      let P : BlockNo → Type 0 = λ b. Contains taken (lock_request.Claim b) in
      by (nat_eq c.0 addr.block.0) refl (All-head P c cs had) (among_claims cs taken (All-tail P c cs had)) some
    where
      by : (same : Bool) → nat_eq c.0 addr.block.0 ≡ same → Contains taken (lock_request.Claim c)
          → (list_any (λ (claim : BlockNo). nat_eq claim.0 addr.block.0) cs ≡ true
          → list_any (lock_request_conflicts request) taken ≡ true)
          → (same || list_any (λ (claim : BlockNo). nat_eq claim.0 addr.block.0) cs) ≡ true
          → list_any (lock_request_conflicts request) taken ≡ true
      by true is has rest some = any_of (lock_request_conflicts request) taken (lock_request.Claim c) has is
      by false is has rest some = rest some

  module _ (g : Geometry) (b : Begun) (seen : Seen) (held : b.held ≡ held_in (Some seen))
      (claims : b.claimed ≡ seen.claims) (had : AreTakenBy g b) (free : takes request b ≡ false) where
    apart : (object : ObjectBytes) → IsSeenIn seen object → IsAside object
    apart object (inl had_exclusive) over =
        let both = and_parts (is_seen object.addr seen.objects) (is_among object.addr seen.exclusives) had_exclusive in
        let one : list_any (conflicts_with request) b.held ≡ true =
        ap (λ (ts : List Taken). list_any (conflicts_with request) ts) held
        ∙ among_read object.addr seen.exclusives seen.objects both.0 both.1 over in
        true≢false (sym (among_held b.held b.taken had.held one) ∙ free)
    apart object (inr claimed) over =
        let one : list_any (λ (claim : BlockNo). nat_eq claim.0 addr.block.0) b.claimed ≡ true =
        ap (λ (cs : List BlockNo). list_any (λ (claim : BlockNo). nat_eq claim.0 addr.block.0) cs) claims
        ∙ among_claimed object.addr.block seen.claims claimed (ap (λ (b : BlockNo). b.0) over.0) in
        true≢false (sym (among_claims b.claimed b.taken had.claimed one) ∙ free)

-- so nothing else is changed
pub preserves_others : (g : Geometry) (size : ℕ) (b : Begun) (seen : Seen) (blocks : Image) (written : List ObjectBytes)
    → AreTakenBy g b → b.held ≡ held_in (Some seen) → b.claimed ≡ seen.claims → All (IsSeenIn seen) written
    → All (λ object. length object.bytes ≡ object.addr.len) written
    → ((block : ℕ) → block < size → length (blocks block) ≡ BLOCK_BYTES)
    → PreservesOthers size b blocks (with_objects blocks written)
preserves_others g size b seen blocks written had held claims own sizes whole addr within free =
    stays_unaffected addr blocks written
    (All-weaker (IsSeenIn seen) (IsAside addr)
    (λ object is. apart addr g b seen held claims had free object is) written own)
    sizes (whole addr.block.0 within)

-- ---- and a block that isn't named stays

unlaid : (image : Image) (written : List ObjectBytes) (block : BlockNo) → lies_in written block ≡ false
    → with_objects image written block.0 ≡ image block.0
unlaid image [] block none = refl
unlaid image (o ∷ os) block none =
    by (nat_eq o.addr.block.0 block.0) refl none (λ later. unlaid (with_object image o) os block later)
  where
    apart : nat_eq o.addr.block.0 block.0 ≡ false → nat_eq block.0 o.addr.block.0 ≡ false
    apart other = ne_eqb block.0 o.addr.block.0
        (λ same. true≢false (sym (eq-eqb o.addr.block.0 block.0 (sym same)) ∙ other))

    by : (same : Bool) → nat_eq o.addr.block.0 block.0 ≡ same → (same || lies_in os block) ≡ false
        → (lies_in os block ≡ false → with_objects (with_object image o) os block.0 ≡ with_object image o block.0)
        → with_objects (with_object image o) os block.0 ≡ image block.0
    by true is none rest = absurd (true≢false none)
    by false is none rest = rest none
        ∙ ap (λ (t : Bool). if t then spliced (image block.0) o.addr.offset o.bytes else image block.0) (apart is)

pub preserves_unnamed : (size : ℕ) (blocks : Image) (written : List ObjectBytes)
    → PreservesUnnamed size (blocks_of written) blocks (with_objects blocks written)
preserves_unnamed size blocks written block within lacks =
    unlaid blocks written block (sym (among_after block [] written) ∙ lacks)
