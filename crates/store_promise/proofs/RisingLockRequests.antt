-- Lemmas: lock requests of one rank are of one object, or claims of one block; lock requests rise with one more among them, and are then
-- those that there were and it, or one that it raised.
use Rattle.std.proofs.Common.{◌≡◌, ◌∙◌, ◌+◌, ◌*◌, ◌<◌, ◌≤◌, refl, sym, ap, subst, ℕ, ◌⊎◌, inl, inr, Bool, true, false}
use Rattle.std.proofs.Common.{◌&&◌, ◌||◌, not, if◌then◌else◌, nat_eq, nat_lt, List, [], ◌∷◌, ◌++◌, All, arith}
use Rattle.std.specs.Prelude.{Contains}
use Rattle.std.proofs.lemmas.Bool.{true≢false}
use Rattle.std.proofs.lemmas.Bool.Decides.{nat_tests}
use Rattle.std.proofs.lemmas.List.Elements.{All-cons, All-head, All-nil, All-tail, All-weaker}
use Rattle.base.specs.declared.TheConstants.{BLOCK_BYTES}
use Rattle.disk.specs.declared.block.BlockNo.{BlockNo}
use Rattle.inode.specs.Snap as snap
use Rattle.objects.specs.Mode.{covers, is_exclusive, upgraded}
use Rattle.objects.specs.declared.addr.Addr.{Addr}
use Rattle.objects.specs.declared.mode.Mode.{Mode}
use Rattle.objects.specs.declared.mode.Mode.TheVariants as modes
use Rattle.txn_law.proofs.Again.{same_addr}
use Rattle.txn_law.proofs.Swept.{in_cons, in_first, in_more}
use Rattle.store_promise.specs.LockRequests.{AreOfOne, IsAsMuch, IsCovered, Rises, bytes_of, inserted, is_bar}
use Rattle.store_promise.specs.LockRequests.{is_barred, is_upgrade, kind_of, image_offset_of, upgraded_by, rank_of}
use Rattle.store_promise.specs.declared.lock_requests.LockRequest.{LockRequest}
use Rattle.store_promise.specs.declared.lock_requests.LockRequest.TheVariants as lock_request

-- ---- lock requests of one rank

-- the parts of a rank
abbrev pub Within : ℕ → ℕ → Type 0
Within bytes kind = (bytes ≤ BLOCK_BYTES) × (kind < 2)

parts : (p q b c k j : ℕ) → Within b k → Within c j
    → (p * (BLOCK_BYTES + 1) + b) * 2 + k ≡ (q * (BLOCK_BYTES + 1) + c) * 2 + j
    → (p ≡ q) × (b ≡ c) × (k ≡ j)
parts p q b c k j (b_in, k_in) (c_in, j_in) same =
    let kinds : k ≡ j = omega (arith, same, k_in, j_in) in
    let both : p * (BLOCK_BYTES + 1) + b ≡ q * (BLOCK_BYTES + 1) + c = omega (arith, same, kinds) in
    let places : p ≡ q = omega (arith, both, b_in, c_in) in
    (places, omega (arith, both, places), kinds)

pub within : (one : LockRequest) → Within (bytes_of one) (kind_of one)
within (lock_request.Object addr mode) = let inside = addr.within in (omega (arith, inside), omega arith)
within (lock_request.Claim block) = (omega arith, omega arith)

one_object : (a b : Addr) (one other : Mode) → image_offset_of (lock_request.Object a one) ≡ image_offset_of (lock_request.Object b other)
    → a.len ≡ b.len → a ≡ b
one_object a b one other places lens =
    let a_in = a.within in let a_some = a.some in let b_in = b.within in let b_some = b.some in
    let blocks : a.block.0 ≡ b.block.0 = omega (arith, places, a_in, a_some, b_in, b_some) in
    let offsets : a.offset ≡ b.offset = omega (arith, places, blocks) in
    same_addr a b blocks offsets lens

pub one_rank : (one other : LockRequest) → rank_of one ≡ rank_of other → AreOfOne one other
one_rank one other same =
    by one other (parts (image_offset_of one) (image_offset_of other) (bytes_of one) (bytes_of other) (kind_of one)
    (kind_of other) (within one) (within other) same)
  where
    by : (one other : LockRequest) → (image_offset_of one ≡ image_offset_of other) × (bytes_of one ≡ bytes_of other)
        × (kind_of one ≡ kind_of other) → AreOfOne one other
    by (lock_request.Object a one) (lock_request.Object b other) is = one_object a b one other is.0 is.1
    by (lock_request.Object a mode) (lock_request.Claim block) is = let kinds = is.2 in absurd (omega (arith, kinds))
    by (lock_request.Claim block) (lock_request.Object a mode) is = let kinds = is.2 in absurd (omega (arith, kinds))
    by (lock_request.Claim a) (lock_request.Claim b) is =
        let places = is.0 in
        ap (λ (n : ℕ). record { 0 = n }) (let blocks : a.0 ≡ b.0 = omega (arith, places) in blocks)

-- a lower rank has no higher place
pub low : (one other : LockRequest) → rank_of one < rank_of other → image_offset_of one ≤ image_offset_of other
low one other less = by (image_offset_of one) (image_offset_of other) (bytes_of one) (bytes_of other) (kind_of one) (kind_of other)
    (within one) (within other) less
  where
    by : (p q b c k j : ℕ) → Within b k → Within c j
        → (p * (BLOCK_BYTES + 1) + b) * 2 + k < (q * (BLOCK_BYTES + 1) + c) * 2 + j → p ≤ q
    by p q b c k j (b_in, k_in) (c_in, j_in) less = omega (arith, less, b_in, k_in, c_in, j_in)

-- ---- modes

covers_itself : (mode : Mode) → covers mode mode ≡ true
covers_itself modes.Shared = refl
covers_itself modes.Exclusive = refl

covers_had : (had request : Mode) → covers (upgraded had request) had ≡ true
covers_had modes.Shared modes.Shared = refl
covers_had modes.Shared modes.Exclusive = refl
covers_had modes.Exclusive modes.Shared = refl
covers_had modes.Exclusive modes.Exclusive = refl

covers_request : (had request : Mode) → covers (upgraded had request) request ≡ true
covers_request modes.Shared modes.Shared = refl
covers_request modes.Shared modes.Exclusive = refl
covers_request modes.Exclusive modes.Shared = refl
covers_request modes.Exclusive modes.Exclusive = refl

pub covers_through : (a b c : Mode) → covers a b ≡ true → covers b c ≡ true → covers a c ≡ true
covers_through modes.Exclusive b c ab bc = refl
covers_through modes.Shared modes.Shared c ab bc = bc
covers_through modes.Shared modes.Exclusive c ab bc = absurd (true≢false (sym ab))

pub as_much : (one : LockRequest) → IsAsMuch one one
as_much (lock_request.Object addr mode) = (refl, covers_itself mode)
as_much (lock_request.Claim block) = refl

pub through : (a b c : LockRequest) → IsAsMuch a b → IsAsMuch b c → IsAsMuch a c
through (lock_request.Object a m) (lock_request.Object b n) (lock_request.Object c w) ab bc = (ab.0 ∙ bc.0, covers_through m n w ab.1 bc.1)
through (lock_request.Object a m) (lock_request.Object b n) (lock_request.Claim c) ab bc = absurd bc
through (lock_request.Object a m) (lock_request.Claim b) c ab bc = absurd ab
through (lock_request.Claim a) (lock_request.Object b n) c ab bc = absurd ab
through (lock_request.Claim a) (lock_request.Claim b) (lock_request.Object c w) ab bc = absurd bc
through (lock_request.Claim a) (lock_request.Claim b) (lock_request.Claim c) ab bc = ab ∙ bc

rank_upgraded : (one first : LockRequest) → rank_of (upgraded_by one first) ≡ rank_of first
rank_upgraded (lock_request.Object asked request) (lock_request.Object addr mode) = refl
rank_upgraded (lock_request.Object asked request) (lock_request.Claim block) = refl
rank_upgraded (lock_request.Claim block) first = refl

-- what is raised is as much as it was, and as what raised it
upgraded_more : (one first : LockRequest) → IsAsMuch (upgraded_by one first) first
upgraded_more (lock_request.Object asked request) (lock_request.Object addr mode) = (refl, covers_had mode request)
upgraded_more (lock_request.Object asked request) (lock_request.Claim block) = refl
upgraded_more (lock_request.Claim block) first = as_much first

upgraded_to : (one first : LockRequest) → AreOfOne first one → IsAsMuch (upgraded_by one first) one
upgraded_to (lock_request.Object asked request) (lock_request.Object addr mode) same = (same, covers_request mode request)
upgraded_to (lock_request.Object asked request) (lock_request.Claim block) same = absurd same
upgraded_to (lock_request.Claim block) (lock_request.Object addr mode) same = absurd same
upgraded_to (lock_request.Claim block) (lock_request.Claim other) same = same

-- ---- one more

module _ (one : LockRequest) where
  abbrev Above : LockRequest → LockRequest → Type 0
  Above low other = rank_of low < rank_of other

  abbrev placed : Bool → Bool → LockRequest → List LockRequest → List LockRequest → List LockRequest
  placed less more first later rest =
      if less then one ∷ first ∷ later else if more then first ∷ rest else upgraded_by one first ∷ later

  -- what is above is above with one more that is
  still_above : (low : LockRequest) (lock_requests : List LockRequest) → Above low one → All (Above low) lock_requests
      → All (Above low) (inserted one lock_requests)
  still_above low [] more all = All-cons (Above low) one [] more (All-nil (Above low))
  still_above low (first ∷ later) more all =
      by (nat_lt (rank_of one) (rank_of first)) (nat_lt (rank_of first) (rank_of one))
      (still_above low later more (All-tail (Above low) first later all))
    where
      by : (less over : Bool) → All (Above low) (inserted one later)
          → All (Above low) (placed less over first later (inserted one later))
      by true over rest = All-cons (Above low) one (first ∷ later) more all
      by false true rest = All-cons (Above low) first (inserted one later)
          (All-head (Above low) first later all) rest
      by false false rest = All-cons (Above low) (upgraded_by one first) later
          (subst (λ (n : ℕ). rank_of low < n) (sym (rank_upgraded one first)) (All-head (Above low) first later all))
          (All-tail (Above low) first later all)

  pub still_rises : (lock_requests : List LockRequest) → Rises lock_requests → Rises (inserted one lock_requests)
  still_rises [] rises = (All-nil (Above one), tt)
  still_rises (first ∷ later) rises =
      by (nat_lt (rank_of one) (rank_of first)) refl (nat_lt (rank_of first) (rank_of one)) refl
      (still_rises later rises.1)
    where
      by : (less : Bool) → nat_lt (rank_of one) (rank_of first) ≡ less → (over : Bool)
          → nat_lt (rank_of first) (rank_of one) ≡ over → Rises (inserted one later)
          → Rises (placed less over first later (inserted one later))
      by true is over also rest =
          let below : rank_of one < rank_of first = grind (arith, nat_tests) in (
            All-cons (Above one) first later below (All-weaker (Above first) (Above one)
                (λ other more. omega (arith, below, more)) later rises.0),
            rises,
          )
      by false is true also rest =
          let above : rank_of first < rank_of one = grind (arith, nat_tests) in
          (still_above first later above rises.0, rest)
      by false is false also rest = (
        All-weaker (Above first) (Above (upgraded_by one first))
            (λ other more. subst (λ (n : ℕ). n < rank_of other) (sym (rank_upgraded one first)) more) later rises.0,
        rises.1,
      )

  -- where neither is below the other they are of one object
  of_one : (first : LockRequest) → nat_lt (rank_of one) (rank_of first) ≡ false
      → nat_lt (rank_of first) (rank_of one) ≡ false → AreOfOne first one
  of_one first is also =
      let ranks : rank_of first ≡ rank_of one = grind (arith, nat_tests) in one_rank first one ranks

  pub there : (lock_requests : List LockRequest) → IsCovered (inserted one lock_requests) one
  there [] = (one, in_first one one [] refl, as_much one)
  there (first ∷ later) =
      by (nat_lt (rank_of one) (rank_of first)) refl (nat_lt (rank_of first) (rank_of one)) refl (there later)
    where
      by : (less : Bool) → nat_lt (rank_of one) (rank_of first) ≡ less → (over : Bool)
          → nat_lt (rank_of first) (rank_of one) ≡ over → IsCovered (inserted one later) one
          → IsCovered (placed less over first later (inserted one later)) one
      by true is over also rest = (one, in_first one one (first ∷ later) refl, as_much one)
      by false is true also rest = (rest.0, in_more first rest.0 (inserted one later) rest.1, rest.2)
      by false is false also rest = (
        upgraded_by one first,
        in_first (upgraded_by one first) (upgraded_by one first) later refl,
        upgraded_to one first (of_one first is also),
      )

  preserved_one : (lock_requests : List LockRequest) (other : LockRequest) → Contains lock_requests other → IsCovered (inserted one lock_requests) other
  preserved_one [] other has = absurd (let less = has.1 in omega (arith, less))
  preserved_one (first ∷ later) other has =
      by (nat_lt (rank_of one) (rank_of first)) (nat_lt (rank_of first) (rank_of one)) (preserved_one later other)
      (in_cons first other later has)
    where
      by : (less over : Bool) → (Contains later other → IsCovered (inserted one later) other)
          → (first ≡ other) ⊎ Contains later other
          → IsCovered (placed less over first later (inserted one later)) other
      by true over rest at = (other, in_more one other (first ∷ later) has, as_much other)
      by false true rest (inl same) = (other, in_first first other (inserted one later) same, as_much other)
      by false true rest (inr more) =
          let found = rest more in (found.0, in_more first found.0 (inserted one later) found.1, found.2)
      by false false rest (inl same) = (
        upgraded_by one first,
        in_first (upgraded_by one first) (upgraded_by one first) later refl,
        subst (IsAsMuch (upgraded_by one first)) same (upgraded_more one first),
      )
      by false false rest (inr more) = (other, in_more (upgraded_by one first) other later more, as_much other)

  pub is_preserved : (lock_requests : List LockRequest) (other : LockRequest) → IsCovered lock_requests other → IsCovered (inserted one lock_requests) other
  is_preserved lock_requests other is =
      let now = preserved_one lock_requests is.0 is.1 in (now.0, now.1, through now.0 is.0 other now.2 is.2)

  pub preserved_claim : (lock_requests : List LockRequest) (block : BlockNo) → Contains lock_requests (lock_request.Claim block)
      → Contains (inserted one lock_requests) (lock_request.Claim block)
  preserved_claim lock_requests block has = by (preserved_one lock_requests (lock_request.Claim block) has)
    where
      by : IsCovered (inserted one lock_requests) (lock_request.Claim block) → Contains (inserted one lock_requests) (lock_request.Claim block)
      by (lock_request.Object addr mode, there, much) = absurd much
      by (lock_request.Claim other, there, much) =
          subst (λ (b : BlockNo). Contains (inserted one lock_requests) (lock_request.Claim b)) much there

  abbrev Known : List LockRequest → LockRequest → Type 0
  Known lock_requests other = (one ≡ other) ⊎ Contains lock_requests other
      ⊎ ((had : LockRequest) × Contains lock_requests had × AreOfOne had one × (other ≡ upgraded_by one had))

  known_more : (first : LockRequest) (later : List LockRequest) (other : LockRequest) → Known later other → Known (first ∷ later) other
  known_more first later other (inl same) = inl same
  known_more first later other (inr (inl old)) = inr (inl (in_more first other later old))
  known_more first later other (inr (inr (had, has, same, is))) =
      inr (inr (had, in_more first had later has, same, is))

  pub no_more : (lock_requests : List LockRequest) (other : LockRequest) → Contains (inserted one lock_requests) other → Known lock_requests other
  no_more [] other has = elim (in_cons one other [] has) [
    | inl same ↦ inl same
    | inr more ↦ inr (inl more)
  ]
  no_more (first ∷ later) other has =
      by (nat_lt (rank_of one) (rank_of first)) refl (nat_lt (rank_of first) (rank_of one)) refl
      (no_more later other) has
    where
      by : (less : Bool) → nat_lt (rank_of one) (rank_of first) ≡ less → (over : Bool)
          → nat_lt (rank_of first) (rank_of one) ≡ over
          → (Contains (inserted one later) other → Known later other)
          → Contains (placed less over first later (inserted one later)) other → Known (first ∷ later) other
      by true is over also rest has = elim (in_cons one other (first ∷ later) has) [
        | inl same ↦ inl same
        | inr more ↦ inr (inl more)
      ]
      by false is true also rest has = elim (in_cons first other (inserted one later) has) [
        | inl same ↦ inr (inl (in_first first other later same))
        | inr more ↦ known_more first later other (rest more)
      ]
      by false is false also rest has = elim (in_cons (upgraded_by one first) other later has) [
        | inl same ↦ inr (inr (first, in_first first first later refl, of_one first is also, sym same))
        | inr more ↦ inr (inl (in_more first other later more))
      ]

  -- what holds of all, and of one of its object that it raises, holds with one more that it holds of
  pub all_more : (P : LockRequest → Type 0) (lock_requests : List LockRequest) → P one
      → ((first : LockRequest) → AreOfOne first one → P first → P (upgraded_by one first))
      → All P lock_requests → All P (inserted one lock_requests)
  all_more P [] new upgrade all = All-cons P one [] new (All-nil P)
  all_more P (first ∷ later) new upgrade all =
      by (nat_lt (rank_of one) (rank_of first)) refl (nat_lt (rank_of first) (rank_of one)) refl
      (all_more P later new upgrade (All-tail P first later all))
    where
      by : (less : Bool) → nat_lt (rank_of one) (rank_of first) ≡ less → (over : Bool)
          → nat_lt (rank_of first) (rank_of one) ≡ over → All P (inserted one later)
          → All P (placed less over first later (inserted one later))
      by true is over also rest = All-cons P one (first ∷ later) new all
      by false is true also rest = All-cons P first (inserted one later) (All-head P first later all) rest
      by false is false also rest = All-cons P (upgraded_by one first) later
          (upgrade first (of_one first is also) (All-head P first later all)) (All-tail P first later all)

  -- what lies behind the others is above each of them
  below : (first : LockRequest) (xs behind : List LockRequest) → All (Above first) (xs ++ one ∷ behind) → rank_of first < rank_of one
  below first xs behind all = All-head (Above first) one behind (all_behind xs all)
    where
      all_behind : (xs : List LockRequest) → All (Above first) (xs ++ one ∷ behind) → All (Above first) (one ∷ behind)
      all_behind [] all = all
      all_behind (x ∷ xs) all = all_behind xs (All-tail (Above first) x (xs ++ one ∷ behind) all)

  -- behind all that are lower it comes last
  pub comes_last : (lock_requests : List LockRequest) (behind : List LockRequest) → Rises (lock_requests ++ one ∷ behind)
      → inserted one lock_requests ≡ lock_requests ++ one ∷ []
  comes_last [] behind rises = refl
  comes_last (first ∷ later) behind rises =
      by (nat_lt (rank_of one) (rank_of first)) refl (nat_lt (rank_of first) (rank_of one)) refl
      (comes_last later behind rises.1)
    where
      under : rank_of first < rank_of one
      under = below first later behind rises.0

      by : (less : Bool) → nat_lt (rank_of one) (rank_of first) ≡ less → (over : Bool)
          → nat_lt (rank_of first) (rank_of one) ≡ over → inserted one later ≡ later ++ one ∷ []
          → placed less over first later (inserted one later) ≡ first ∷ later ++ one ∷ []
      by true is over also rest = absurd (let low = under in grind (arith, nat_tests))
      by false is true also rest = ap (λ (xs : List LockRequest). first ∷ xs) rest
      by false is false also rest = absurd (let low = under in grind (arith, nat_tests))

-- a claim that is one more is there as it is
pub claim_there : (block : BlockNo) (lock_requests : List LockRequest) → Contains (inserted (lock_request.Claim block) lock_requests) (lock_request.Claim block)
claim_there block lock_requests = by (there (lock_request.Claim block) lock_requests)
  where
    by : IsCovered (inserted (lock_request.Claim block) lock_requests) (lock_request.Claim block)
        → Contains (inserted (lock_request.Claim block) lock_requests) (lock_request.Claim block)
    by (lock_request.Object addr mode, has, much) = absurd much
    by (lock_request.Claim other, has, much) =
        subst (λ (b : BlockNo). Contains (inserted (lock_request.Claim block) lock_requests) (lock_request.Claim b)) much has

-- ---- what bars a wait

neither : (a b : Bool) → a ≡ false → b ≡ false → (a || b) ≡ false
neither true b is also = absurd (true≢false is)
neither false b is also = also

three : (a b c : Bool) → (a && b && c) ≡ true → (a ≡ true) × (b ≡ true) × (c ≡ true)
three true true true is = (refl, refl, refl)
three true true false is = absurd (true≢false (sym is))
three true false c is = absurd (true≢false (sym is))
three false b c is = absurd (true≢false (sym is))

none_of : (b : Bool) → (b ≡ true → ⊥) → b ≡ false
none_of true not = absurd (not refl)
none_of false not = refl

first_of : (a b : Bool) → (a && b) ≡ true → a ≡ true
first_of true b is = refl
first_of false b is = is

-- what has a lower rank isn't raised
no_upgrade : (one x : LockRequest) → rank_of x < rank_of one → is_upgrade one x ≡ false
no_upgrade (lock_request.Object addr mode) (lock_request.Object other had) less =
    none_of (snap.same_addr addr other && not (covers had mode)) (λ is. by (three (nat_eq addr.block.0 other.block.0)
    (nat_eq addr.offset other.offset) (nat_eq addr.len other.len) (first_of _ _ is)))
  where
    by : (nat_eq addr.block.0 other.block.0 ≡ true) × (nat_eq addr.offset other.offset ≡ true)
        × (nat_eq addr.len other.len ≡ true) → ⊥
    by (block, offset, len) =
        let blocks : addr.block.0 ≡ other.block.0 = grind (arith, nat_tests) in
        let offsets : addr.offset ≡ other.offset = grind (arith, nat_tests) in
        let lens : addr.len ≡ other.len = grind (arith, nat_tests) in
        omega (arith, less, blocks, offsets, lens)
no_upgrade (lock_request.Claim block) (lock_request.Object other had) less =
    none_of (nat_eq block.0 other.block.0 && nat_eq other.len BLOCK_BYTES && not (is_exclusive had))
    (λ is. by (three (nat_eq block.0 other.block.0) (nat_eq other.len BLOCK_BYTES) (not (is_exclusive had)) is))
  where
    by : (nat_eq block.0 other.block.0 ≡ true) × (nat_eq other.len BLOCK_BYTES ≡ true)
        × (not (is_exclusive had) ≡ true) → ⊥
    by (block_is, len_is, shared) =
        let inside = other.within in
        let blocks : block.0 ≡ other.block.0 = grind (arith, nat_tests) in
        let lens : other.len ≡ BLOCK_BYTES = grind (arith, nat_tests) in
        omega (arith, less, blocks, lens, inside)
no_upgrade (lock_request.Object addr mode) (lock_request.Claim block) less = refl
no_upgrade (lock_request.Claim block) (lock_request.Claim other) less = refl

no_bar : (one x : LockRequest) → rank_of x < rank_of one → is_bar one x ≡ false
no_bar one x less = neither (nat_lt (image_offset_of one) (image_offset_of x)) (is_upgrade one x)
    (let first = low x one less in grind (arith, nat_tests)) (no_upgrade one x less)

-- what is taken again is barred by nothing
pub not_barred : (one : LockRequest) (lock_requests behind : List LockRequest) → Rises (lock_requests ++ one ∷ behind) → is_barred one lock_requests ≡ false
not_barred one [] behind rises = refl
not_barred one (x ∷ xs) behind rises =
    neither (is_bar one x) (is_barred one xs) (no_bar one x (below one x xs behind rises.0))
    (not_barred one xs behind rises.1)
