-- An image in whose log is nothing: what it holds, and what a call's plan makes of it.
use Rattle.std.specs.Prelude.{◌≡◌, ℕ, ◌+◌, ◌<◌, List, Result, Ok, Err}
use Rattle.base.specs.declared.TheConstants.{SUPER_BLOCK}
use Rattle.disk.specs.Crash.{Image, IsAtRest}
use Rattle.disk.specs.Device.{Content, Device}
use Rattle.disk.specs.declared.block.BlockNo.{BlockNo}
use Rattle.nfs_types.specs.declared.call.Call.{Call}
use Rattle.nfs_types.specs.declared.ctx.Ctx.{Ctx}
use Rattle.nfs_spec.specs.Model.Sound.{IsMadeBy}
use Rattle.nfs_spec.specs.Model.Tree.{Tree}
use Rattle.nfs_spec.specs.Procedures.Step.{step}
use Rattle.layout.specs.declared.geometry.Geometry.{Geometry}
use Rattle.layout.specs.declared.super_block.Super.{Super}
use Rattle.layout.specs.Homes.{homes_of}
use Rattle.layout.specs.Stands.{Stands}
use Rattle.layout.specs.SuperForm.{IsSuper}
use Rattle.objects.specs.declared.addr.Addr.{Addr}
use Rattle.objects.specs.declared.mode.Mode.{Mode}
use Rattle.circ.specs.Log.Overlay.{HasHomes, IsInRange, end_in, logged_in, start_in}
use Rattle.circ.specs.Log.Recovery.{image_of}
use Rattle.txn_law.specs.Window.{with_objects}
use Rattle.inode.specs.Snap.{with_mode, with_read}
use Rattle.inode.specs.declared.snap.Snap.{Snap}
use Rattle.procs.specs.Outcome.{Outcome}
use Rattle.store_promise.specs.declared.fault.OpenFault.{OpenFault}
use Rattle.store_promise.specs.declared.fault.OpenFault.TheVariants as fault
use Rattle.store_promise.specs.Openings.{IsCauseOf}
use Rattle.store_images.specs.Opening.{HoldsTree}

-- the log of an image of so many blocks was found: these blocks, and the position at which it ends
pub record IsLogOf (size : ℕ) (image : Image) (logged : List (BlockNo × Content)) (end : ℕ) : Type 0 where
  pub range : IsInRange image
  pub homes : HasHomes size image
  pub logged_is : logged ≡ logged_in image
  pub end_is : end ≡ end_in image

-- A device is at rest, and what it holds is an image of this geometry that stands for a tree, with a boot number that no
-- file is later than; and nothing is in its log.
pub record HoldsAtHome (g : Geometry) (d : Device) (tree : Tree) (boot : ℕ) : Type 0 where
  pub rest : IsAtRest d
  pub super : Super
  pub is_super : IsSuper (image_of d SUPER_BLOCK) super
  pub geometry_is : super.geometry ≡ g
  pub size_is : g.blocks ≡ d.size
  pub boot_is : super.boot ≡ boot
  pub empty : start_in (image_of d) ≡ end_in (image_of d)
  pub stands : Stands g (homes_of g.blocks (image_of d)) tree
  pub stamps : IsMadeBy boot tree

-- what comes of a beginning, of an image with this tree and this boot number
abbrev pub Begins : Device → Device → Tree → ℕ → Result Geometry OpenFault → Type 0
Begins before later tree first (Ok g) = HoldsAtHome g later tree (first + 1)
Begins before later tree first (Err fault.Device) = before.failures < later.failures
Begins before later tree first (Err cause) = IsCauseOf cause before later first × HoldsTree later tree first

-- a device call failed, or memory was refused
abbrev pub IsFailure : OpenFault → Device → Device → Type 0
IsFailure fault.Device before later = before.failures < later.failures
IsFailure (fault.NoMemory error) before later = later.failures ≡ before.failures
IsFailure fault.Magic before later = ⊥
IsFailure fault.Version before later = ⊥
IsFailure fault.Range before later = ⊥
IsFailure fault.Log before later = ⊥

-- an object of this address was read in a mode, too
pub record HasAdded (addr : Addr) (mode : Mode) (old new : Snap) : Type 0 where
  pub bytes : List ℕ
  pub geometry : new.geometry ≡ old.geometry
  pub objects : new.objects.items ≡ with_read addr bytes old.objects.items
  pub exclusives : new.exclusives.items ≡ with_mode addr mode old.exclusives.items
  pub claims : new.claims.items ≡ old.claims.items

-- Where these blocks stand for a tree, what came of a call is a step from there, and the blocks with what it writes stand
-- for the next tree.
abbrev pub LeadsOver : Geometry → Image → Ctx → Call → Outcome → Type 0
LeadsOver g blocks ctx call done = (tree : Tree) → Stands g blocks tree
    → (next : Tree) × step tree ctx call done.reply next × Stands g (with_objects blocks done.written) next
