-- What an opening does to an image: what the log has comes home, and then the boot number rises.
use Rattle.std.specs.Prelude.{⊤, ◌≡◌, ◌≢◌, ℕ, ◌+◌, ◌<◌, ◌⊎◌, Ok, length, []}
use Rattle.base.specs.declared.TheConstants.{SUPER_BLOCK}
use Rattle.disk.specs.Crash.{Image}
use Rattle.disk.specs.Device.{Content, Device, HasSettled, HasWritten}
use Rattle.disk.specs.declared.block.Side.TheVariants.{Home}
use Rattle.layout.specs.declared.super_block.Super.{Super}
use Rattle.layout.specs.declared.fault.LayoutFault.TheVariants as layout_fault
use Rattle.layout.specs.Newest.{newest}
use Rattle.layout.specs.SuperForm.{IsNoSuper, IsSuper, super_bytes}
use Rattle.circ.specs.Log.Calls.{AgreesWithPending, idle}
use Rattle.circ.specs.Log.Law.{IsOutside, with_changes}
use Rattle.circ.specs.Log.Log.{Log, opened}
use Rattle.circ.specs.Log.Overlay.{HasHomes, IsInRange, logged_in, over, start_in}
use Rattle.circ.specs.Log.Recovery.{HasOnlyRead, image_of}
use Rattle.txn_law.specs.Core.{CoreState}
use Rattle.txn_law.specs.CoreWindow.{AreBlocks}
use Rattle.store_promise.specs.declared.fault.OpenFault.{OpenFault}
use Rattle.store_promise.specs.declared.fault.OpenFault.TheVariants as fault
use Rattle.store_promise.specs.Openings.{AtEachStop, IsLater, IsOfAnother}

-- the core, as one in which nothing was begun
abbrev pub unused : CoreState → CoreState
unused core = record core { begun = 0; out = []; holds = []; present = []; records = []; refused = 0 }

-- An image that can be opened, whose blocks, with its log laid over them, are those of a first image with the
-- log of that laid over them, save for the super block, which is this.
pub record HasBlocksOf (size : ℕ) (first : Image) (super : Content) (image : Image) : Type 0 where
  pub range : IsInRange image
  pub homes : HasHomes size image
  pub blocks : (block : ℕ) → IsOutside size block → block ≢ SUPER_BLOCK → over image block ≡ over first block
  pub super_is : image SUPER_BLOCK ≡ super

-- The device agrees with a log that has only what was logged in a first image, over what is at home by now; and
-- the one laid over the other makes the blocks of that image.
pub record IsComingHome (first : Image) (now : Device) (log : Log) : Type 0 where
  pub base : Image
  pub agrees : AgreesWithPending now base log idle idle
  pub whole : AreBlocks log.blocks base
  pub blocks : (block : ℕ) → IsOutside log.blocks block → with_changes base log.changes block ≡ over first block
  pub super_is : base SUPER_BLOCK ≡ first SUPER_BLOCK
  pub logged : log.logged ≡ length log.changes
  pub taken : log.taken ≡ 0

-- the same, with the super block of the first image or with a raised one
abbrev pub HasBlocksWith : ℕ → Image → Content → Image → Type 0
HasBlocksWith size first incremented image =
    HasBlocksOf size first (first SUPER_BLOCK) image ⊎ HasBlocksOf size first incremented image

-- Whatever a stop has left since has the blocks of the image before, with its super block or with the raised
-- one.
pub record PreservesBlocks (before now : Device) (incremented : Content) : Type 0 where
  pub past : IsLater before now
  pub stops : AtEachStop before now (λ at image. HasBlocksWith now.size (image_of before) incremented image)

-- What an opening found by reading alone: the super block, of a device of its size and with a boot number
-- left, and the log that lies on the image.
pub record IsFound (before : Device) (found : Super) (log : Log) : Type 0 where
  pub is_super : IsSuper (image_of before SUPER_BLOCK) found
  pub range : IsInRange (image_of before)
  pub homes : HasHomes before.size (image_of before)
  pub log_is : log ≡ opened before.size (start_in (image_of before)) (logged_in (image_of before))

-- The log that was found in an image of so many blocks, if only it could be read.
pub record IsFoundLog (was_read : Type 0) (size : ℕ) (image : Image) (log : Log) : Type 0 where
  pub range : was_read → IsInRange image
  pub homes : was_read → HasHomes size image
  pub log_is : was_read → log ≡ opened size (start_in image) (logged_in image)

-- the super block with the next boot number, in the newest version
abbrev pub next_super : Super → Super
next_super found = record { geometry = newest found.geometry; boot = found.boot + 1 }

-- An opening has only read; or at each stop there is what lay there, under its super block or under the one that has
-- both the next boot number and the newest version.
abbrev pub LeavesImage : Device → Device → Type 0
LeavesImage before later = HasOnlyRead before later
    ⊎ ((found : Super) × IsSuper (image_of before SUPER_BLOCK) found
    × PreservesBlocks before later (super_bytes (next_super found)))

-- What comes home, and what each stop so far has left.
pub record BringsHome (before : Device) (incremented : Content) (now : Device) (log : Log) : Type 0 where
  pub coming : IsComingHome (image_of before) now log
  pub preserves : PreservesBlocks before now incremented

-- The last two calls of an opening: the super block was written, and settled.
pub record HasIncremented (before : Device) (incremented : Content) (now later : Device) (log : Log) : Type 0 where
  pub written : Device
  pub brings : BringsHome before incremented now log
  pub write : HasWritten now SUPER_BLOCK incremented (Ok tt) written
  pub settle : HasSettled written Home (Ok tt) later

-- the fault tells of a device call just where one failed
abbrev pub CountsCause : OpenFault → Device → Device → Type 0
CountsCause fault.Device before later = before.failures < later.failures
CountsCause fault.Magic before later = later.failures ≡ before.failures
CountsCause fault.Version before later = later.failures ≡ before.failures
CountsCause fault.Range before later = later.failures ≡ before.failures
CountsCause fault.Log before later = later.failures ≡ before.failures
CountsCause (fault.NoMemory error) before later = later.failures ≡ before.failures

-- a block has no super block of an image of so many blocks that may be opened, and this is what is wrong with
-- it
abbrev pub HasNoSuper : OpenFault → ℕ → Content → Type 0
HasNoSuper fault.Magic size content = IsNoSuper content layout_fault.Magic
HasNoSuper fault.Version size content = IsNoSuper content layout_fault.Version
HasNoSuper fault.Range size content = IsNoSuper content layout_fault.Range ⊎ IsOfAnother size content
HasNoSuper fault.Log size content = ⊥
HasNoSuper fault.Device size content = ⊥
HasNoSuper (fault.NoMemory error) size content = ⊥

-- an image of so many blocks has no log, if only it could be read, or a call failed
abbrev pub HasNoLog : Type 0 → OpenFault → ℕ → Image → Type 0
HasNoLog was_read fault.Log size image = was_read → IsInRange image → HasHomes size image → ⊥
HasNoLog was_read fault.Device size image = ⊤
HasNoLog was_read (fault.NoMemory error) size image = ⊤
HasNoLog was_read fault.Magic size image = ⊥
HasNoLog was_read fault.Version size image = ⊥
HasNoLog was_read fault.Range size image = ⊥
