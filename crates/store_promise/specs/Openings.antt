-- What an opening, and the making of an image, do to a device.
use Rattle.std.specs.Prelude.{◌≡◌, ◌≢◌, ℕ, ◌+◌, ◌^◌, ◌<◌, ◌≤◌, ◌⊎◌, Option, Some, None}
use Rattle.base.specs.declared.TheConstants.{SUPER_BLOCK}
use Rattle.disk.specs.Crash.{Image, IsAtRest, IsCrashImage}
use Rattle.disk.specs.Device.{Content, Device}
use Rattle.disk.specs.Failures.{CountsFailures}
use Rattle.nfs_spec.specs.Model.Tree.{Tree}
use Rattle.nfs_types.specs.declared.ctx.Moment.{Moment}
use Rattle.layout.specs.declared.geometry.Geometry.{Geometry}
use Rattle.layout.specs.Fresh.{IsFresh}
use Rattle.layout.specs.declared.fault.LayoutFault.TheVariants as layout_fault
use Rattle.layout.specs.declared.super_block.Super.{Super}
use Rattle.layout.specs.SuperForm.{HasMagic, IsNoSuper, IsSuper}
use Rattle.circ.specs.Log.Overlay.{start_in, end_in, IsInRange, HasHomes}
use Rattle.circ.specs.Log.Recovery.{HasOnlyRead, IsCertain, image_of}
use Rattle.store_promise.specs.declared.fault.OpenFault.{OpenFault}
use Rattle.store_promise.specs.declared.fault.OpenFault.TheVariants as fault
use Rattle.store_promise.specs.GoodImage.{IsGoodImage}

-- the device went on: its past is what it was, and each call since is counted where it failed
pub record IsLater (before later : Device) : Type 0 where
  pub size : later.size ≡ before.size
  pub clock : before.clock ≤ later.clock
  pub past : (clock block : ℕ) → clock ≤ before.clock
      → later.contents clock block ≡ before.contents clock block
  pub failed : (call : ℕ) → call < before.clock → later.failed call ≡ before.failed call
  pub lost : (call : ℕ) → call < before.clock → later.lost call ≡ before.lost call
  pub counted : CountsFailures before later

-- Whenever a call of the device was or will be next, from one device to what it became, whatever a crash
-- leaves is so.
abbrev pub AtEachStop : Device → Device → (ℕ → Image → Type 0) → Type 0
AtEachStop before later holds = (clock : ℕ) (image : Image) → before.clock ≤ clock → clock ≤ later.clock
    → IsCrashImage later clock image → holds clock image

-- each stop leaves some image
abbrev pub LeavesImages : Device → Device → Type 0
LeavesImages before later = (clock : ℕ) → before.clock ≤ clock → clock ≤ later.clock
    → (image : Image) × IsCrashImage later clock image

-- the boot number is that before an opening, or that of it
abbrev pub IsBootOf : ℕ → ℕ → Type 0
IsBootOf first boot = (boot ≡ first) ⊎ (boot ≡ first + 1)

-- an image with the tree, and with the boot number before the opening or after it
pub record HasTree (size first : ℕ) (tree : Tree) (image : Image) : Type 0 where
  pub boot : ℕ
  pub boot_is : IsBootOf first boot
  pub good : IsGoodImage size image tree boot

-- the tree stays whenever the store is stopped: so it is while a store is opened
abbrev pub PreservesTree : Device → Device → Tree → ℕ → Type 0
PreservesTree before later tree first =
    AtEachStop before later (λ clock image. HasTree later.size first tree image)

-- An opening, from one device to another, of an image with this tree and this boot number: the tree stays at
-- each stop, no call fails, and at its end the next boot number is settled. The log is empty then, at this
-- position.
pub record IsOpened (before opened : Device) (tree : Tree) (first position : ℕ) : Type 0 where
  pub past : IsLater before opened
  pub begun : before.clock < opened.clock
  pub failures : opened.failures ≡ before.failures
  pub left : LeavesImages before opened
  pub preserves : PreservesTree before opened tree first
  pub settled : (image : Image) → IsCrashImage opened opened.clock image
      → IsGoodImage opened.size image tree (first + 1)
  pub empty : (image : Image) → IsCrashImage opened opened.clock image → (start_in image ≡ position)
      × (end_in image ≡ position)

-- why a good image may not be opened: a device call failed; or none did, and no boot number is left, or
-- memory was refused
abbrev pub IsCauseOf : OpenFault → Device → Device → ℕ → Type 0
IsCauseOf fault.Device before later first = before.failures < later.failures
IsCauseOf fault.Range before later first = (2 ^ 64 ≤ first + 1) × (later.failures ≡ before.failures)
IsCauseOf (fault.NoMemory error) before later first = later.failures ≡ before.failures
IsCauseOf fault.Magic before later first = ⊥
IsCauseOf fault.Version before later first = ⊥
IsCauseOf fault.Log before later first = ⊥

-- An opening of a good image that was refused for a cause: the tree stays at each stop.
pub record IsRefused (before later : Device) (tree : Tree) (first : ℕ) (cause : OpenFault) : Type 0 where
  pub past : IsLater before later
  pub left : LeavesImages before later
  pub preserves : PreservesTree before later tree first
  pub because : IsCauseOf cause before later first

-- the sizes of the super block aren't the device's, or no boot number is left
abbrev pub IsOfAnother : ℕ → Content → Type 0
IsOfAnother size content = (super : Super) × IsSuper content super
    × ((super.geometry.blocks ≢ size) ⊎ (2 ^ 64 ≤ super.boot + 1))

-- the super block is one of the device's size, and a boot number is left
abbrev pub HasBootLeft : ℕ → Content → Type 0
HasBootLeft size content = (super : Super) × IsSuper content super × (super.geometry.blocks ≡ size)
    × (super.boot + 1 < 2 ^ 64)

-- an image of so many blocks shows why it isn't opened: by its super block first, whose boot number is the last
-- of it, then by its log's headers
abbrev pub IsShownBy : OpenFault → ℕ → Image → Type 0
IsShownBy fault.Magic size image = (size ≡ 0) ⊎ IsNoSuper (image SUPER_BLOCK) layout_fault.Magic
IsShownBy fault.Version size image = IsNoSuper (image SUPER_BLOCK) layout_fault.Version
IsShownBy fault.Range size image = IsNoSuper (image SUPER_BLOCK) layout_fault.Range
    ⊎ IsOfAnother size (image SUPER_BLOCK)
IsShownBy fault.Log size image = HasBootLeft size (image SUPER_BLOCK)
    × ((IsInRange image × HasHomes size image) → ⊥)
IsShownBy fault.Device size image = ⊥
IsShownBy (fault.NoMemory error) size image = ⊥

-- calls were made, none of which failed, and no block has changed
pub record WasOnlyRead (before later : Device) : Type 0 where
  pub only : HasOnlyRead before later
  pub failures : later.failures ≡ before.failures

-- An opening of any image, good or not, that was refused: for a counted failure or an allocation that failed,
-- or for what the image shows, and then it was only read. What it shows is what the reads bring, where the
-- device keeps its model and no write of it has failed.
abbrev pub IsRefusedFor : Type 0 → OpenFault → Device → Device → Type 0
IsRefusedFor keeps_model fault.Device before later = IsLater before later × (before.failures < later.failures)
IsRefusedFor keeps_model (fault.NoMemory error) before later = IsLater before later
IsRefusedFor keeps_model cause before later = WasOnlyRead before later
    × (keeps_model → IsCertain before → IsShownBy cause before.size (image_of before))

-- an image of so many blocks shows no cause
abbrev pub ShowsNoCause : ℕ → Image → Type 0
ShowsNoCause size image = (cause : OpenFault) → IsShownBy cause size image → ⊥

-- What comes of an opening of any image, good or not: it is opened only where the image shows no cause and no
-- call failed, and refused as said above.
abbrev pub IsAnsweredFor : Type 0 → Option OpenFault → Device → Device → Type 0
IsAnsweredFor keeps_model None before later = IsLater before later × (later.failures ≡ before.failures)
    × (keeps_model → IsCertain before → ShowsNoCause before.size (image_of before))
IsAnsweredFor keeps_model (Some cause) before later = IsRefusedFor keeps_model cause before later

-- what a stop may leave while an image is made: an image from before, one that has no super block, or the
-- fresh one
abbrev pub IsLeftByFormat : Device → Geometry → Moment → Image → Type 0
IsLeftByFormat before g moment image = (IsCrashImage before before.clock image)
    ⊎ ((HasMagic (image SUPER_BLOCK) → ⊥) ⊎ IsFresh g moment image)

-- A device is on the way to an image that was made at the moment: each stop leaves the old image, none, or the
-- fresh one.
pub record IsMaking (before later : Device) (g : Geometry) (moment : Moment) : Type 0 where
  pub past : IsLater before later
  pub size : later.size ≡ g.blocks
  pub left : LeavesImages before later
  pub stops : AtEachStop before later (λ at image. IsLeftByFormat before g moment image)

-- An image was made: no call failed, the device is at rest, and holds the fresh image.
pub record IsFormatted (before later : Device) (g : Geometry) (moment : Moment) : Type 0 where
  pub making : IsMaking before later g moment
  pub failures : later.failures ≡ before.failures
  pub rest : IsAtRest before → IsAtRest later
  pub fresh : (image : Image) → IsCrashImage later later.clock image → IsFresh g moment image

-- A format that a device call ended, which failed.
pub record HasFailedToFormat (before later : Device) (g : Geometry) (moment : Moment) : Type 0 where
  pub making : IsMaking before later g moment
  pub failures : before.failures < later.failures
