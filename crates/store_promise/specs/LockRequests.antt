-- What a call asks of the core, and the order in which it is taken again.
use Rattle.std.specs.Prelude.{◌≡◌, ℕ, ◌+◌, ◌*◌, ◌<◌, Bool, true, false, not, ◌&&◌, ◌||◌, if◌then◌else◌, nat_eq}
use Rattle.std.specs.Prelude.{nat_lt, List, [], ◌∷◌, All, Contains}
use Rattle.std.specs.List.{list_any}
use Rattle.base.specs.declared.TheConstants.{BLOCK_BYTES}
use Rattle.inode.specs.Snap.{same_addr}
use Rattle.objects.specs.Mode.{covers, is_exclusive, upgraded}
use Rattle.store_promise.specs.declared.lock_requests.LockRequest.{LockRequest}
use Rattle.store_promise.specs.declared.lock_requests.LockRequest.TheVariants as lock_request

-- where the first byte of a lock request lies in the image
abbrev pub image_offset_of : LockRequest → ℕ
image_offset_of (lock_request.Object addr mode) = addr.block.0 * BLOCK_BYTES + addr.offset
image_offset_of (lock_request.Claim block) = block.0 * BLOCK_BYTES

-- how many bytes it has
abbrev pub bytes_of : LockRequest → ℕ
bytes_of (lock_request.Object addr mode) = addr.len
bytes_of (lock_request.Claim block) = BLOCK_BYTES

-- how it is asked for: to be written whole, or to be read in some mode
abbrev pub kind_of : LockRequest → ℕ
kind_of (lock_request.Claim block) = 0
kind_of (lock_request.Object addr mode) = 1

-- Lock requests stand in the order of their first bytes, and a claim before the object that is its whole block. An object
-- has one rank, whatever its mode.
abbrev pub rank_of : LockRequest → ℕ
rank_of one = (image_offset_of one * (BLOCK_BYTES + 1) + bytes_of one) * 2 + kind_of one

-- ---- modes

-- the one is of the other's object, in its mode or in a higher one, or both are claims of one block
abbrev pub IsAsMuch : LockRequest → LockRequest → Type 0
IsAsMuch (lock_request.Object addr mode) (lock_request.Object other request) = (addr ≡ other) × (covers mode request ≡ true)
IsAsMuch (lock_request.Claim block) (lock_request.Claim other) = block ≡ other
IsAsMuch _ _ = ⊥

-- one of them is as much
abbrev pub IsCovered : List LockRequest → LockRequest → Type 0
IsCovered lock_requests one = (found : LockRequest) × Contains lock_requests found × IsAsMuch found one

-- they are of one object, in whatever modes, or claims of one block
abbrev pub AreOfOne : LockRequest → LockRequest → Type 0
AreOfOne (lock_request.Object addr mode) (lock_request.Object other request) = addr ≡ other
AreOfOne (lock_request.Claim block) (lock_request.Claim other) = block ≡ other
AreOfOne _ _ = ⊥

-- a lock request in the mode in which another asks for its object, where that is the higher one
abbrev pub upgraded_by : LockRequest → LockRequest → LockRequest
upgraded_by (lock_request.Object asked request) (lock_request.Object addr mode) = lock_request.Object addr (upgraded mode request)
upgraded_by (lock_request.Object asked request) (lock_request.Claim block) = lock_request.Claim block
upgraded_by (lock_request.Claim block) other = other

-- ---- lock requests in their order

-- they rise, so that each is there once
abbrev pub Rises : List LockRequest → Type 0
Rises [] = Unit {0}
Rises (first ∷ later) = All (λ (one : LockRequest). rank_of first < rank_of one) later × Rises later

-- with one more; where its object is there, that is raised to its mode
abbrev pub inserted : LockRequest → List LockRequest → List LockRequest
inserted one [] = one ∷ []
inserted one (first ∷ later) =
    if nat_lt (rank_of one) (rank_of first) then one ∷ first ∷ later
    else if nat_lt (rank_of first) (rank_of one) then first ∷ inserted one later
    else upgraded_by one first ∷ later

-- what is asked for raises what was taken: that is the same object beside others, and is asked for alone; or it is the
-- whole of a block that is to be claimed
abbrev pub is_upgrade : LockRequest → LockRequest → Bool
is_upgrade (lock_request.Object addr mode) (lock_request.Object other had) = same_addr addr other && not (covers had mode)
is_upgrade (lock_request.Claim block) (lock_request.Object other had) =
    nat_eq block.0 other.block.0 && nat_eq other.len BLOCK_BYTES && not (is_exclusive had)
is_upgrade request (lock_request.Claim block) = false

-- what was taken bars a wait for what is asked for: it begins above that, or is raised by it
abbrev pub is_bar : LockRequest → LockRequest → Bool
is_bar request one = nat_lt (image_offset_of request) (image_offset_of one) || is_upgrade request one

-- one of them does
abbrev pub is_barred : LockRequest → List LockRequest → Bool
is_barred request lock_requests = list_any (is_bar request) lock_requests
