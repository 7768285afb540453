-- What was read for a call, without where it lies in memory.
use Rattle.std.specs.Prelude.{ℕ, if◌then◌else◌, Option, Some, None, List, [], ◌∷◌, ◌++◌}
use Rattle.disk.specs.declared.block.BlockNo.{BlockNo}
use Rattle.objects.specs.declared.addr.Addr.{Addr}
use Rattle.objects.specs.declared.mode.Mode.{Mode}
use Rattle.objects.specs.declared.mode.Mode.TheVariants as modes
use Rattle.layout.specs.declared.geometry.Geometry.{Geometry}
use Rattle.inode.specs.declared.snap.Snap.{Snap}
use Rattle.inode.specs.Snap.{is_among, with_mode, with_read}
use Rattle.procs.specs.declared.planner.Planner.{Planner}
use Rattle.txn.specs.Object.{ObjectBytes}

-- the geometry of the image, the objects that were read, the addresses of those that were asked for alone, and the blocks
-- that were claimed
pub record Seen : Type 0 where
  pub geometry : Geometry
  pub objects : List ObjectBytes
  pub exclusives : List Addr
  pub claims : List BlockNo

abbrev pub seen_of : Snap → Seen
seen_of snap = record {
  geometry = snap.geometry;
  objects = snap.objects.items;
  exclusives = snap.exclusives.items;
  claims = snap.claims.items;
}

-- the mode in which an object was asked for, by the addresses of those that were asked for alone
abbrev pub mode_in : List Addr → Addr → Mode
mode_in exclusives addr = if is_among addr exclusives then modes.Exclusive else modes.Shared

-- what was read for a planner
abbrev pub seen_in : Option Planner → Option Seen
seen_in None = None
seen_in (Some planner) = Some (seen_of planner.snap)

-- once an object was read in a mode
abbrev pub with_object : Addr → Mode → List ℕ → Option Seen → Option Seen
with_object addr mode bytes None = None
with_object addr mode bytes (Some seen) = Some (record seen {
  objects = with_read addr bytes seen.objects;
  exclusives = with_mode addr mode seen.exclusives;
})

-- once a block more was claimed
abbrev pub with_claim : BlockNo → Option Seen → Option Seen
with_claim block None = None
with_claim block (Some seen) = Some (record seen { claims = seen.claims ++ block ∷ [] })
