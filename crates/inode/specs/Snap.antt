-- What has been read for a call so far, and what may come next.
use Rattle.std.specs.Prelude.{◌≡◌, ◌⊎◌, ℕ, ◌<◌, Bool, true, false, ◌&&◌, if◌then◌else◌, List, [], ◌∷◌, ◌++◌, nat_eq}
use Rattle.std.specs.Prelude.{vec_len, vec_capacity}
use Rattle.std.specs.List.{list_any}
use Rattle.objects.specs.declared.addr.Addr.{Addr}
use Rattle.objects.specs.declared.mode.Mode.{Mode}
use Rattle.objects.specs.declared.mode.Mode.TheVariants as modes
use Rattle.disk.specs.declared.block.BlockNo.{BlockNo}
use Rattle.objects.specs.Object.{ObjectBytes}
use Rattle.txn_law.specs.LockAnswers.{IsWhole}
use Rattle.inode.specs.declared.snap.Snap.{Snap}
use Rattle.inode.specs.declared.suspend.Suspend.{Suspend}
use Rattle.inode.specs.declared.suspend.Suspend.TheVariants as suspend

-- two addresses are one
abbrev pub same_addr : Addr → Addr → Bool
same_addr a b = nat_eq a.block.0 b.block.0 && nat_eq a.offset b.offset && nat_eq a.len b.len

-- an object of this address is among those that were read
abbrev pub is_seen : Addr → List ObjectBytes → Bool
is_seen addr objects = list_any (λ object. same_addr addr object.addr) objects

-- the address is among these
abbrev pub is_among : Addr → List Addr → Bool
is_among addr addrs = list_any (λ other. same_addr addr other) addrs

-- an object of this address was read, and asked for in this mode or in a higher one
abbrev pub is_had : Addr → Mode → List ObjectBytes → List Addr → Bool
is_had addr modes.Shared objects exclusives = is_seen addr objects
is_had addr modes.Exclusive objects exclusives = is_seen addr objects && is_among addr exclusives

-- the block is among those that were claimed
abbrev pub is_claimed : BlockNo → List BlockNo → Bool
is_claimed block claims = list_any (λ claim. nat_eq block.0 claim.0) claims

-- the objects that were read, with one more, where its address wasn't
abbrev pub with_read : Addr → List ℕ → List ObjectBytes → List ObjectBytes
with_read addr bytes objects =
    if is_seen addr objects then objects else objects ++ record { addr = addr; bytes = bytes } ∷ []

-- the addresses that were asked for alone, with one more that was asked for in this mode
abbrev pub with_mode : Addr → Mode → List Addr → List Addr
with_mode addr modes.Shared exclusives = exclusives
with_mode addr modes.Exclusive exclusives = exclusives ++ addr ∷ []

-- what was asked for alone was read
pub record AreSeen (exclusives : List Addr) (objects : List ObjectBytes) : Type 0 where
  pub all : (addr : Addr) → is_among addr exclusives ≡ true → is_seen addr objects ≡ true

-- there is room for one more object, in either mode, and one more claim
pub record HasReserved (snap : Snap) : Type 0 where
  pub objects : vec_len snap.objects < vec_capacity snap.objects
  pub claims : vec_len snap.claims < vec_capacity snap.claims
  pub exclusives : vec_len snap.exclusives < vec_capacity snap.exclusives

-- an object of this address may be written: it was read, and asked for alone, or is a whole block that was claimed
abbrev pub MayWrite : Snap → Addr → Type 0
MayWrite snap addr = (is_had addr modes.Exclusive snap.objects.items snap.exclusives.items ≡ true)
    ⊎ ((is_claimed addr.block snap.claims.items ≡ true) × IsWhole addr.block addr)

-- a plan stops for what wasn't asked for yet in this mode, or claimed yet
abbrev pub IsNew : Snap → Suspend → Type 0
IsNew snap (suspend.Need addr mode) = is_had addr mode snap.objects.items snap.exclusives.items ≡ false
IsNew snap (suspend.Claim block) = is_claimed block snap.claims.items ≡ false
IsNew snap suspend.Io = Unit {0}
IsNew snap (suspend.NoMemory error) = Unit {0}
